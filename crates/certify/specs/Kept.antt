-- What a certifier keeps, and the delivered items for which it stands.
use Rattle.std.specs.Prelude.{◌≡◌, ℕ, ◌+◌, ◌*◌, ◌/◌, ◌%◌, ◌<◌, ◌≤◌, ◌^◌, ◌&&◌, List, Option, [], length, slice_get, slice_index_or, Some, nat_eq}
use Rattle.std.specs.Map.{lookup}
use Rattle.std.specs.FinMap.{empty}
use Rattle.schema.specs.declared.look.Look.{Look}
use Rattle.schema.specs.Rows.{Writes, shares_key}
use Rattle.sig_lanes.specs.Signature.{writes_set_bit}
use Rattle.sig_lanes.specs.Bits.{has_bit, signature_at}
use Rattle.log_model.specs.declared.request.RequestId.{RequestId}
use Rattle.log_model.specs.Log.{DoneRequest, CertifiedItem, is_commit, done_at}

-- of one item, ready to be kept: its request, its signature, and writes of its keys
pub record PreparedCall : Type 0 where
  pub request : Option RequestId
  pub signature : List ℕ
  pub writes : Writes

-- looks share a key with the one exactly where they do with the other
abbrev pub ShareAlike : Writes → Writes → Type 0
ShareAlike a b = (looks : List Look) → shares_key looks a ≡ shares_key looks b

pub record IsPreparedOf (p : PreparedCall) (writes : Writes) : Type 0 where
  pub signature : (bit : ℕ) → bit < 1024 → has_bit p.signature bit ≡ writes_set_bit writes bit
  pub keys : ShareAlike p.writes writes

-- the places of the latest items, each used again in turn: blocks of eight signatures, and the writes
pub record Ring : Type 0 where
  pub blocks : List (List (List ℕ))
  pub writes : List Writes

pub record HasPlaces (ring : Ring) : Type 0 where
  pub some : 0 < length ring.blocks
  pub eight : length ring.writes ≡ length ring.blocks * 8

-- the item after so many has this place
abbrev pub place_of : Ring → ℕ → ℕ
place_of ring before = before % length ring.writes

abbrev pub signature_of : Ring → ℕ → List ℕ
signature_of ring before = signature_at (slice_index_or ring.blocks (place_of ring before / 8) []) (place_of ring before % 8)

abbrev pub writes_of : Ring → ℕ → Writes
writes_of ring before = slice_index_or ring.writes (place_of ring before) empty

-- the signature is that of the item's writes, where it committed, and else has no bits
pub record IsKept (ring : Ring) (before : ℕ) (c : CertifiedItem) : Type 0 where
  pub signature : (bit : ℕ) → bit < 1024 → has_bit (signature_of ring before) bit ≡ (is_commit c.verdict && writes_set_bit c.writes bit)
  pub keys : ShareAlike (writes_of ring before) c.writes

-- as many of the latest items as there are places
abbrev pub Keeps : Ring → List CertifiedItem → Type 0
Keeps ring past = (before : ℕ) (c : CertifiedItem) → slice_get past before ≡ Some c → length past ≤ before + length ring.writes → IsKept ring before c

-- the window, how many items were delivered, and what is kept of the latest
pub record Latest : Type 0 where
  pub window : ℕ
  pub count : ℕ
  pub ring : Ring

abbrev pub latest_of : ℕ → ℕ → List (List (List ℕ)) → List Writes → Latest
latest_of window count blocks writes = record { window = window; count = count; ring = record { blocks = blocks; writes = writes } }

pub record IsMemoryOfLatest (m : Latest) (past : List CertifiedItem) : Type 0 where
  pub count : m.count ≡ length past
  pub kept : Keeps m.ring past

-- a request, as one number
abbrev pub key_of : RequestId → ℕ
key_of request = request.session * 2 ^ 32 + request.sequence

-- numbers of 32 bits
pub record IsRequest (request : RequestId) : Type 0 where
  pub session : request.session < 2 ^ 32
  pub sequence : request.sequence < 2 ^ 32

-- under each request the position at which it was done, for good
abbrev pub KeepsRequests : List (ℕ × ℕ) → List DoneRequest → List CertifiedItem → Type 0
KeepsRequests entries done past = (request : RequestId) → IsRequest request → lookup (nat_eq (key_of request)) entries ≡ done_at done past (Some request)

-- with the requests that were done
pub record Memory : Type 0 where
  pub window : ℕ
  pub count : ℕ
  pub ring : Ring
  pub requests : List (ℕ × ℕ)

pub record IsMemoryOf (m : Memory) (done : List DoneRequest) (past : List CertifiedItem) : Type 0 where
  pub count : m.count ≡ length past
  pub kept : Keeps m.ring past
  pub requests : KeepsRequests m.requests done past

-- what is kept, how many exact comparisons the last verdict made, and for how many requests more there is room
pub record CertifierState : Type 0 where
  pub memory : Memory
  pub compared : ℕ
  pub room : ℕ
