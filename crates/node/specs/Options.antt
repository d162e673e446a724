-- With which options a node may be started.
use Rattle.std.specs.Prelude.{◌≡◌, ◌≤◌, ◌⊎◌, ℕ}
use Rattle.schema.specs.declared.limits.TheConstants.{MAX_REPLICAS, MAX_EXECUTORS, MAX_WINDOW, MAX_LOG}
use Rattle.node.specs.declared.options.Options.{Options}
use Rattle.node.specs.declared.options.StartFault.{StartFault}
use Rattle.node.specs.declared.options.StartFault.TheVariants.{Replicas, Executors, Window, NoMemory, NoThread, Limit}

abbrev pub IsFromOneTo : ℕ → ℕ → Type 0
IsFromOneTo limit n = (1 ≤ n) × (n ≤ limit)

pub record AreInBounds (o : Options) : Type 0 where
  pub replicas : IsFromOneTo MAX_REPLICAS o.replicas
  pub executors : IsFromOneTo MAX_EXECUTORS o.executors
  pub window : IsFromOneTo MAX_WINDOW o.window
  pub limit : IsFromOneTo MAX_LOG o.limit

-- the first option that is out of its bounds, in the order in which they are tested
abbrev pub IsOptionsFault : Options → StartFault → Type 0
IsOptionsFault o Replicas = IsFromOneTo MAX_REPLICAS o.replicas → ⊥
IsOptionsFault o Executors = IsFromOneTo MAX_REPLICAS o.replicas × (IsFromOneTo MAX_EXECUTORS o.executors → ⊥)
IsOptionsFault o Window = IsFromOneTo MAX_REPLICAS o.replicas × IsFromOneTo MAX_EXECUTORS o.executors × (IsFromOneTo MAX_WINDOW o.window → ⊥)
IsOptionsFault o Limit = IsFromOneTo MAX_REPLICAS o.replicas × IsFromOneTo MAX_EXECUTORS o.executors × IsFromOneTo MAX_WINDOW o.window × (IsFromOneTo MAX_LOG o.limit → ⊥)
IsOptionsFault o NoMemory = ⊥
IsOptionsFault o NoThread = ⊥

-- memory or a thread is wanting
abbrev pub IsWant : StartFault → Type 0
IsWant fault = (fault ≡ NoMemory) ⊎ (fault ≡ NoThread)

-- why a node doesn't start: an option is out of its bounds; or all are within, and memory or a thread is wanting
abbrev pub IsStartFault : Options → StartFault → Type 0
IsStartFault o fault = IsOptionsFault o fault ⊎ (AreInBounds o × IsWant fault)

-- the options of a node whose log has room for as many entries as a log may have
abbrev pub options_of : ℕ → ℕ → ℕ → Options
options_of replicas executors window = record { replicas = replicas; executors = executors; window = window; limit = MAX_LOG }
