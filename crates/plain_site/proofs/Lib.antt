mod SiteLemmas
