-- A run depends on the rows only where it looks: whole runs.
use Rattle.std.proofs.Common.{◌≡◌, ℕ, zero, suc, ℤ, pos, negsuc, Bool, true, false, cond, List, [], ◌∷◌, length, Option, Some, None, refl, sym, ap, subst, ◌∙◌, unwrap_or}
use Rattle.std.specs.Prelude.{IsSome, ◌↔◌, All}
use Rattle.std.specs.FinMap.{get}
use Rattle.std.proofs.lemmas.List.Elements.{All-head, All-tail}
use Rattle.bpf_words.specs.Condition.{holds}
use Rattle.bpf_code.specs.declared.instruction.Register.{Register}
use Rattle.bpf_code.specs.declared.instruction.Instruction.{Instruction}
use Rattle.bpf_code.specs.declared.instruction.Instruction.TheVariants.{LoadWide, Load, StoreImmediate, StoreRegister, Arithmetic, Negate, MoveSignExtended, End, Jump, LongJump, Branch, Call, Exit}
use Rattle.bpf_code.specs.Sizes.{width_bits}
use Rattle.bpf_code.specs.Program.{Program, instruction_at}
use Rattle.schema.specs.Schema.{Tables}
use Rattle.schema.specs.Rows.{Rows, AgreeOn, any_covers, after_writes, Writes}
use Rattle.schema.specs.Helper.{helper_of}
use Rattle.schema.proofs.RowsLemmas.{after_writes-empty, get-after_writes}
use Rattle.schema.specs.declared.helper.Helper.{Helper}
use Rattle.bpf_semantics.specs.State.{State, past, entry_state, with_register}
use Rattle.bpf_semantics.specs.declared.value.Value.{Value}
use Rattle.bpf_semantics.specs.Memory.{and_then}
use Rattle.bpf_semantics.specs.Helpers.{state_after_call}
use Rattle.bpf_semantics.specs.Step.{Moment, Going, Ended, Stuck, or_stuck, after_jump, is_read_only, with_result, with_store, execute, step}
use Rattle.bpf_semantics.specs.Run.{next_moment, moment, Run, run_of, run_at, run}
use Rattle.bpf_semantics.specs.Agree.{looks_of, AgreeOnLooks, in_tables, same_on, AreElsewhere, after_each}
use Rattle.bpf_semantics.proofs.LookLemmas.{agree_on_run, agree_on_tables}
use Rattle.bpf_semantics.proofs.StepLemmas.{just}
use Rattle.bpf_semantics.proofs.RunLemmas.{run_ended, step_runs, going_runs}
use Rattle.bpf_semantics.proofs.EffectLemmas.{Kept, execute_keeps, effect_kept, effect_cancelled}
use Rattle.bpf_semantics.proofs.AgreeLemmas.{over, AreTwins, called_twins}

-- the same but for the rows
abbrev pub SameMoments : Moment → Moment → Type 0
SameMoments (Going u) (Going v) = v ≡ over v.rows u
SameMoments (Ended r u) (Ended q v) = (q ≡ r) × (v ≡ over v.rows u)
SameMoments Stuck Stuck = Unit {0}
SameMoments _ _ = ⊥

or_stuck_twins : {X : Type 0} (o : Option X) (f g : X → Moment) → ((x : X) → SameMoments (f x) (g x)) → SameMoments (or_stuck o f) (or_stuck o g)
unfolding or_stuck
or_stuck_twins None f g h = tt
or_stuck_twins (Some x) f g h = h x

jump_twins : (d : ℤ) (s : State) (rows : Rows) → SameMoments (after_jump d s) (after_jump d (over rows s))
jump_twins (pos n) s rows = refl
jump_twins (negsuc n) s rows = tt

branch_twins : (b : Bool) (d : ℤ) (s : State) (rows : Rows) → SameMoments (cond b (after_jump d s) (Going (past 1 s))) (cond b (after_jump d (over rows s)) (Going (past 1 (over rows s))))
branch_twins true d s rows = jump_twins d s rows
branch_twins false d s rows = refl

store_twins : (o : Option (List (Option ℕ))) (s : State) (rows : Rows) → SameMoments (with_store o s) (with_store o (over rows s))
store_twins o s rows = or_stuck_twins o _ _ (λ stack. refl)

after_call : (a b : Option State) → AreTwins a b → SameMoments (or_stuck a (λ t. Going (past 1 t))) (or_stuck b (λ t. Going (past 1 t)))
unfolding or_stuck
after_call None None h = tt
after_call (Some u) (Some v) h = ap (past 1) h
after_call None (Some v) h = h
after_call (Some u) None h = h

set_twins : (n : ℕ) (dst : Register) (v : Value) (s : State) (rows : Rows) → SameMoments (with_result n dst v s) (with_result n dst v (over rows s))
set_twins n dst v s rows =
    elim (is_read_only dst) as (λ b. SameMoments (cond b Stuck (Going (past n (with_register s dst v)))) (cond b Stuck (Going (past n (with_register (over rows s) dst v))))) [
      | true ↦ tt
      | false ↦ refl
    ]

call_twins : (m n rows : Rows) (tables : Tables) (o : Option Helper) (s : State) → s.rows ≡ after_writes s.writes m → rows ≡ after_writes s.writes n
    → AgreeOn (any_covers (looks_of (or_stuck (and_then o (λ h. state_after_call tables h s)) (λ t. Going (past 1 t))))) m n
    → SameMoments (or_stuck (and_then o (λ h. state_after_call tables h s)) (λ t. Going (past 1 t))) (or_stuck (and_then o (λ h. state_after_call tables h (over rows s))) (λ t. Going (past 1 t)))
unfolding or_stuck and_then
call_twins m n rows tables None s e f agree = tt
call_twins m n rows tables (Some h) s e f agree =
    after_call (state_after_call tables h s) (state_after_call tables h (over rows s))
    (called_twins m n rows tables h s e f (λ u is. subst (λ o. AgreeOn (any_covers (looks_of (or_stuck o (λ t. Going (past 1 t))))) m n) is agree))

execute_twins : (m n rows : Rows) (tables : Tables) (i : Instruction) (s : State) → s.rows ≡ after_writes s.writes m → rows ≡ after_writes s.writes n
    → AgreeOn (any_covers (looks_of (execute tables i s))) m n → SameMoments (execute tables i s) (execute tables i (over rows s))
unfolding execute
execute_twins m n rows tables (LoadWide dst value) s e f agree = set_twins 2 dst _ s rows
execute_twins m n rows tables (Load kind dst src offset) s e f agree = or_stuck_twins _ _ _ (λ bytes. set_twins 1 dst _ s rows)
execute_twins m n rows tables (StoreImmediate size dst offset immediate) s e f agree = store_twins _ s rows
execute_twins m n rows tables (StoreRegister size dst src offset) s e f agree = or_stuck_twins _ _ _ (λ a. store_twins _ s rows)
execute_twins m n rows tables (Arithmetic width op dst src) s e f agree = or_stuck_twins _ _ _ (λ v. set_twins 1 dst _ s rows)
execute_twins m n rows tables (Negate width dst) s e f agree = or_stuck_twins _ _ _ (λ v. set_twins 1 dst _ s rows)
execute_twins m n rows tables (MoveSignExtended kind dst src) s e f agree = or_stuck_twins _ _ _ (λ v. set_twins 1 dst _ s rows)
execute_twins m n rows tables (End order width dst) s e f agree = or_stuck_twins _ _ _ (λ v. set_twins 1 dst _ s rows)
execute_twins m n rows tables (Jump distance) s e f agree = jump_twins distance s rows
execute_twins m n rows tables (LongJump distance) s e f agree = jump_twins distance s rows
execute_twins m n rows tables (Branch width condition dst src distance) s e f agree =
    or_stuck_twins _ _ _ (λ a. or_stuck_twins _ _ _ (λ b. branch_twins (holds (width_bits width) condition a b) distance s rows))
execute_twins m n rows tables (Call helper) s e f agree = call_twins m n rows tables (helper_of helper) s e f agree
execute_twins m n rows tables Exit s e f agree = or_stuck_twins _ _ _ (λ reply. (refl, refl))

-- ---- whole runs

-- two runs at one moment
pub record Together (m n : Rows) (u v : State) : Type 0 where
  pub same : v ≡ over v.rows u
  pub kept : Kept m u
  pub kept_too : Kept n v

abbrev pub AreTogether : Rows → Rows → Moment → Moment → Type 0
AreTogether m n (Going u) (Going v) = Together m n u v
AreTogether m n (Ended r u) (Ended q v) = (q ≡ r) × (v ≡ over v.rows u)
AreTogether m n Stuck Stuck = Unit {0}
AreTogether m n _ _ = ⊥

step_keeps : (rows : Rows) (p : Program) (tables : Tables) (s t : State) → step p tables s ≡ Going t → Kept rows s → Kept rows t
step_keeps rows p tables s t e k = let runs = step_runs p tables s (Going t) e (going_runs t) in execute_keeps rows tables runs.0 s t runs.2 k

step_twins : (m n rows : Rows) (p : Program) (tables : Tables) (s : State) → s.rows ≡ after_writes s.writes m → rows ≡ after_writes s.writes n
    → AgreeOn (any_covers (looks_of (step p tables s))) m n → SameMoments (step p tables s) (step p tables (over rows s))
unfolding step or_stuck
step_twins m n rows p tables s e f agree =
    elim (instruction_at p s.slot) as (λ o. AgreeOn (any_covers (looks_of (or_stuck o (λ i. execute tables i s)))) m n
    → SameMoments (or_stuck o (λ i. execute tables i s)) (or_stuck o (λ i. execute tables i (over rows s)))) [
      | None ↦ λ a. tt
      | Some i ↦ λ a. execute_twins m n rows tables i s e f a
    ] agree

-- the same moments, with what each step keeps
together : (m n : Rows) (a b : Moment) → SameMoments a b → ((u : State) → a ≡ Going u → Kept m u) → ((v : State) → b ≡ Going v → Kept n v) → AreTogether m n a b
together m n (Going u) (Going v) h f g = record { same = h; kept = f u refl; kept_too = g v refl }
together m n (Ended r u) (Ended q v) h f g = h
together m n Stuck Stuck h f g = tt
together m n (Going u) (Ended q v) h f g = h
together m n (Going u) Stuck h f g = h
together m n (Ended r u) (Going v) h f g = h
together m n (Ended r u) Stuck h f g = h
together m n Stuck (Going v) h f g = h
together m n Stuck (Ended q v) h f g = h

pub next_together : (m n : Rows) (p : Program) (tables : Tables) (a b : Moment) → AreTogether m n a b → AgreeOn (any_covers (looks_of (next_moment (step p tables) a))) m n
    → AreTogether m n (next_moment (step p tables) a) (next_moment (step p tables) b)
next_together m n p tables (Going u) (Going v) h agree =
    let kept : Kept n (over v.rows u) = subst (Kept n) h.same h.kept_too in
    let twins : SameMoments (step p tables u) (step p tables v) =
    subst (λ (x : State). SameMoments (step p tables u) (step p tables x)) (sym h.same) (step_twins m n v.rows p tables u h.kept kept agree) in
    together m n (step p tables u) (step p tables v) twins (λ t e. step_keeps m p tables u t e h.kept) (λ t e. step_keeps n p tables v t e h.kept_too)
next_together m n p tables (Ended r u) (Ended q v) h agree = h
next_together m n p tables Stuck Stuck h agree = tt
next_together m n p tables (Going u) (Ended q v) h agree = absurd h
next_together m n p tables (Going u) Stuck h agree = absurd h
next_together m n p tables (Ended r u) (Going v) h agree = absurd h
next_together m n p tables (Ended r u) Stuck h agree = absurd h
next_together m n p tables Stuck (Going v) h agree = absurd h
next_together m n p tables Stuck (Ended q v) h agree = absurd h

moments_together : (p : Program) (tables : Tables) (args : List ℕ) (m n : Rows) → AgreeOnLooks p tables args m n → (k : ℕ)
    → AreTogether m n (moment p tables k (entry_state args m)) (moment p tables k (entry_state args n))
unfolding moment
moments_together p tables args m n agree zero = record { same = refl; kept = sym (after_writes-empty m); kept_too = sym (after_writes-empty n) }
moments_together p tables args m n agree (suc k) =
    next_together m n p tables (moment p tables k (entry_state args m)) (moment p tables k (entry_state args n)) (moments_together p tables args m n agree k) (agree (suc k))

-- what a run is but for its effect
abbrev with_effect : Run → Rows → Run
with_effect r rows = record r { effect = rows }

-- ended together: the same run but for the effect
ended_alike : (m n : Rows) (r : ℕ) (u : State) (b : Moment) → AreTogether m n (Ended r u) b → (q : Run) × (run_at n b ≡ just q) × (q ≡ with_effect (run_of m r u) q.effect)
ended_alike m n r u (Going v) h = absurd h
ended_alike m n r u Stuck h = absurd h
ended_alike m n r u (Ended q v) h =
    let alike : run_of n q v ≡ with_effect (run_of m r u) (run_of n q v).effect =
    ap (λ (x : State). with_effect (run_of n q x) (run_of n q v).effect) h.1
    ∙ ap (λ (x : ℕ). with_effect (run_of m x u) (run_of n q v).effect) h.0 in
    (run_of n q v, refl, alike)

-- the effect is that of the writes, whether it cancelled or not
effect_is : (p : Program) (tables : Tables) (args : List ℕ) (rows : Rows) (r : Run) → run p tables args rows ≡ just r → r.effect ≡ after_writes r.writes rows
effect_is p tables args rows r e =
    elim r.cancel_code as (λ o. r.cancel_code ≡ o → r.effect ≡ after_writes r.writes rows) [
      | None ↦ λ none. effect_kept p tables args rows r e none
      | Some code ↦ λ some.
          let c = effect_cancelled p tables args rows r e (subst (λ o. IsSome o) (sym some) refl) in
          c.0 ∙ sym (after_writes-empty rows) ∙ ap (λ (w : Writes). after_writes w rows) (sym c.1)
    ] refl

same_run : (p : Program) (tables : Tables) (args : List ℕ) (m n : Rows) (r : Run) → AgreeOnLooks p tables args m n → run p tables args m ≡ Some r → run p tables args n ≡ Some (same_on n r)
unfolding run
same_run p tables args m n r agree e =
    let at = run_ended m (moment p tables (length p) (entry_state args m)) r e in
    let pair : AreTogether m n (Ended at.0 at.1) (moment p tables (length p) (entry_state args n)) =
    subst (λ (x : Moment). AreTogether m n x (moment p tables (length p) (entry_state args n))) at.2 (moments_together p tables args m n agree (length p)) in
    let other = ended_alike m n at.0 at.1 (moment p tables (length p) (entry_state args n)) pair in
    let alike : other.0 ≡ with_effect r other.0.effect = other.2 ∙ ap (λ (x : Run). with_effect x other.0.effect) at.3 in
    let writes : other.0.writes ≡ r.writes = ap (λ (x : Run). x.writes) alike in
    let effect : other.0.effect ≡ after_writes r.writes n = effect_is p tables args n other.0 other.1 ∙ ap (λ (w : Writes). after_writes w n) writes in
    other.1 ∙ ap just (alike ∙ ap (with_effect r) effect)

pub same_on_looks : (p : Program) (tables : Tables) (args : List ℕ) (m n : Rows) (r : Run) → run p tables args m ≡ Some r → AgreeOn (any_covers r.looks) m n
    → run p tables args n ≡ Some (same_on n r)
same_on_looks p tables args m n r e agree = same_run p tables args m n r (agree_on_run p tables args m n r e agree) e

pub same_on_tables : (p : Program) (tables : Tables) (args : List ℕ) (m n : Rows) (r : Run) → run p tables args m ≡ Some r → AgreeOn (in_tables tables) m n
    → run p tables args n ≡ Some (same_on n r)
same_on_tables p tables args m n r e agree = same_run p tables args m n r (agree_on_tables p tables args m n agree) e

-- ---- runs that go on, and stuck ones

pub going_alike : (m n : Rows) (u : State) (b : Moment) → AreTogether m n (Going u) b → b ≡ Going (over (after_writes u.writes n) u)
going_alike m n u (Going v) h =
    let writes : v.writes ≡ u.writes = ap (λ (x : State). x.writes) h.same in
    let rows : v.rows ≡ after_writes u.writes n = h.kept_too ∙ ap (λ (w : Writes). after_writes w n) writes in
    ap (λ (x : State). Going x) (h.same ∙ ap (λ (r : Rows). over r u) rows)
going_alike m n u (Ended q v) h = absurd h
going_alike m n u Stuck h = absurd h

pub going_on_alike : (p : Program) (tables : Tables) (args : List ℕ) (m n : Rows) → AgreeOnLooks p tables args m n → (k : ℕ) (s : State)
    → moment p tables k (entry_state args m) ≡ Going s → moment p tables k (entry_state args n) ≡ Going (record s { rows = after_writes s.writes n })
going_on_alike p tables args m n agree k s e =
    going_alike m n s (moment p tables k (entry_state args n))
    (subst (λ (x : Moment). AreTogether m n x (moment p tables k (entry_state args n))) e (moments_together p tables args m n agree k))

stuck_alike : (m n : Rows) (a b : Moment) → AreTogether m n a b → (a ≡ Stuck) ↔ (b ≡ Stuck)
stuck_alike m n (Going u) (Going v) h = (λ e. absurd cc, λ e. absurd cc)
stuck_alike m n (Ended r u) (Ended q v) h = (λ e. absurd cc, λ e. absurd cc)
stuck_alike m n Stuck Stuck h = (λ e. refl, λ e. refl)
stuck_alike m n (Going u) (Ended q v) h = absurd h
stuck_alike m n (Going u) Stuck h = absurd h
stuck_alike m n (Ended r u) (Going v) h = absurd h
stuck_alike m n (Ended r u) Stuck h = absurd h
stuck_alike m n Stuck (Going v) h = absurd h
stuck_alike m n Stuck (Ended q v) h = absurd h

pub stuck_where : (p : Program) (tables : Tables) (args : List ℕ) (m n : Rows) → AgreeOnLooks p tables args m n → (k : ℕ)
    → (moment p tables k (entry_state args m) ≡ Stuck) ↔ (moment p tables k (entry_state args n) ≡ Stuck)
stuck_where p tables args m n agree k =
    stuck_alike m n (moment p tables k (entry_state args m)) (moment p tables k (entry_state args n)) (moments_together p tables args m n agree k)

-- no run on the one rows is none on the other
none_alike : (m n : Rows) (a b : Moment) → AreTogether m n a b → (run_at m a ≡ None) ↔ (run_at n b ≡ None)
none_alike m n (Going u) (Going v) h = (λ e. refl, λ e. refl)
none_alike m n (Ended r u) (Ended q v) h = (λ e. absurd cc, λ e. absurd cc)
none_alike m n Stuck Stuck h = (λ e. refl, λ e. refl)
none_alike m n (Going u) (Ended q v) h = absurd h
none_alike m n (Going u) Stuck h = absurd h
none_alike m n (Ended r u) (Going v) h = absurd h
none_alike m n (Ended r u) Stuck h = absurd h
none_alike m n Stuck (Going v) h = absurd h
none_alike m n Stuck (Ended q v) h = absurd h

pub none_where : (p : Program) (tables : Tables) (args : List ℕ) (m n : Rows) → AgreeOnLooks p tables args m n → (run p tables args m ≡ None) ↔ (run p tables args n ≡ None)
unfolding run
none_where p tables args m n agree =
    none_alike m n (moment p tables (length p) (entry_state args m)) (moment p tables (length p) (entry_state args n)) (moments_together p tables args m n agree (length p))

pub none_on_tables : (p : Program) (tables : Tables) (args : List ℕ) (m n : Rows) → AgreeOn (in_tables tables) m n → (run p tables args m ≡ None) ↔ (run p tables args n ≡ None)
none_on_tables p tables args m n agree = none_where p tables args m n (agree_on_tables p tables args m n agree)

-- ---- writes elsewhere

pub elsewhere : (p : Program) (tables : Tables) (args : List ℕ) (rows : Rows) (r : Run) (w : Writes) → run p tables args rows ≡ Some r → AreElsewhere r.looks w
    → run p tables args (after_writes w rows) ≡ Some (same_on (after_writes w rows) r)
elsewhere p tables args rows r w e apart =
    same_on_looks p tables args rows (after_writes w rows) r e (λ k inside.
    sym (get-after_writes w rows k ∙ ap (λ (o : Option (Option (List ℕ))). unwrap_or o (get rows k)) (apart k inside)))

pub elsewhere_each : (p : Program) (tables : Tables) (args : List ℕ) (rows : Rows) (r : Run) (ws : List Writes) → run p tables args rows ≡ Some r → All (AreElsewhere r.looks) ws
    → run p tables args (after_each ws rows) ≡ Some (same_on (after_each ws rows) r)
elsewhere_each p tables args rows r [] e apart = same_on_looks p tables args rows rows r e (λ k inside. refl)
elsewhere_each p tables args rows r (w ∷ ws) e apart =
    elsewhere_each p tables args (after_writes w rows) (same_on (after_writes w rows) r) ws
    (elsewhere p tables args rows r w e (All-head (AreElsewhere r.looks) w ws apart)) (All-tail (AreElsewhere r.looks) w ws apart)
