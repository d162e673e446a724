mod LocalLemmas
