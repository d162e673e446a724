-- What `list` prints for a program's bytes, and its exit status.
use Rattle.std.specs.Prelude.{ℕ, List, ◌++◌, codes, Result, Ok, Err}
use Rattle.bpf_bytes.specs.declared.fault.DecodeFault.{DecodeFault}
use Rattle.bpf_bytes.specs.Fault.{fault_text}
use Rattle.bpf_code.specs.Program.{Program}
use Rattle.bpf_list.specs.Listing.{listing_of}

-- one line, as `refused B3 slot 0`
abbrev pub refused_text : DecodeFault → List ℕ
refused_text fault = codes "refused " ++ fault_text fault ++ codes "\n"

abbrev pub listing_text : Result Program DecodeFault → List ℕ
listing_text (Ok p) = listing_of p
listing_text (Err fault) = refused_text fault

abbrev pub listing_status : Result Program DecodeFault → ℕ
listing_status (Ok p) = 0
listing_status (Err fault) = 1
