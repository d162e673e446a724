-- What a row knows of a note's cell, told to the note.
use Rattle.std.proofs.Common.{◌≡◌, ℕ, List, [], ◌∷◌, ap, refl}
use mir.Syntax.{a_type, named}
use mir.Val.{Val, vunit, vptr}
use mir.MapTy.{inst_fn}
use base.Logic.{SProp, emp, apply∗, all, all_e}
use base.Fml.{Lft, Share, Fml, ftrue, fsep, flft}
use types.Logic.{sem}
use types.Kit.{‵, raw, ◌⊛◌, later, ◌$◌, ◌∵◌, !, qed, by, move, keep, drop, use0, use1, use2, split, join, fsplit, fsplit3, fjoin, await, feq_i}
use types.Run.{unit_lit, of_opd, returns, enter}
use types.ByLocal.{alloc_all, pass_all, free_all, look_at, sets}
use contract.Running.{tables}
use contract.Monad.{fact, fact_i}
use denote.Exit.{yes}
use denote.RattleType.{RattleType, owns}
use denote.Signature.{types_at, plain}
use denote.Steps.{nothing, heard}
use denote.Opens.{unhide}
use denote.Param.{param, layouts}
use denote.Builtin.{RefOf}
use denote.Ref.{mut_vals, mut_Tells, shr_vals, shr_Tells}
use denote.Triple.Walked.{Stays, stay_dropped, stay_ref, walk_of, Goes-dropped, Goes-ref}
use Rattle.std.specs.declared.option.Option.TheVariants.{Some}
use Rattle.std.proofs.raw_atomic.Walks.{proved, leaves}
use Rattle.once_cell.specs.Once.{noted}
use Rattle.once_cell.proofs.Notes as notes
use Rattle.once_cell.proofs.Notes.{Note, noted_twice}
use Rattle.known.specs.contracts.row.Row as Written
use Rattle.known.specs.Agrees.{AgreesOn, Has}
use Rattle.known.specs.Rows.{all_noted}
use Rattle.known.proofs.Rows.{all_twice, on_all, one_of, has_one}
use Rattle.known.specs.contracts.row.Row.tell.{ended, clauses}
use Rattle.known.specs.contracts.row.Row.tell.Key.{name as #self}
use Rattle.known.proofs.row.Row.tell.Statement.{statement}
use Rattle.known.proofs.row.Row.tell.Code as code

pub tell_spec : {M : Type 1} → statement M
tell_spec 𝓤 𝓛 𝓜 𝓡 wired T L =
    let H = 𝓛.H in let 𝓣 = tables 𝓤 H 𝓜 𝓡 𝓡.env in let R : RattleType = param 0 T in let En = ended T in let S : RattleType = Written.the_row R in let N : RattleType = Note 𝓛 R in
    let inst = layouts (a_type ∷ []) (T, tt) in let fn = inst_fn inst code.function in let c = clauses T 𝓛 𝓜.mem 𝓡.returns in
    let self = RefOf (0 ∷ []) tt (plain (λ _. S)) (λ _. tt) in let hs : Stays En.signature.params En.kept = (stay_dropped self yes, (stay_ref (1 ∷ []) tt (plain (λ _. N)), tt)) in
    proved 𝓛 En hs c 𝓜 𝓡 (Goes-dropped 𝓛 3 self yes (λ κs x f. refl), (Goes-ref 𝓛 3 1 tt (plain (λ _. N)), tt)) (#self inst) fn (code.unfolded 𝓤 H 𝓜 𝓡 wired (T, tt))
    (λ κs. (shr_vals, (mut_vals, tt))) (λ κs. (shr_Tells (named 0) κs.0 S, (mut_Tells (named 1) κs.1.0 N, tt))) (λ κs qs bounds a gh are.
    let b₀ : ℕ = a.1.0.ref_ptr.0 in let o₀ : ℕ = a.1.0.ref_ptr.1 in let p : Val = vptr a.0.ref_ptr.0 a.0.ref_ptr.1 in let p' : Val = vptr b₀ o₀ in
    let ks : List (ℕ × T.Denot) = a.0.now.known in let n : N.Denot = a.1.0.now in let γ : ℕ = n.cell in
    let κ' : Lft = κs.1.0 in let q' : Share = qs.1.0 in let ν₀ : ℕ = a.1.0.ghost_name in let Shuts = notes.Shuts 𝓛 R κ' q' b₀ o₀ ν₀ in let Sees : Type 0 = (x : T.Denot) × Has ks γ x in
    let y : (walk_of 𝓛 En hs c).Ghost = ((κs, qs, bounds, a, (p ∷ [], (p' ∷ [], tt))), gh) in let Post : Val → SProp 𝓤 = (walk_of 𝓛 En hs c).post y in
    qed 𝓛 (((‵ (flft κs.0 qs.0) ⊛ ‵ (fsep (flft κ' q') (fsep (flft κs.1.1.0 qs.1.1.0) ftrue))) ⊛ ‵ (owns (types_at En.signature.params κs) a y.0.4)) ∷ raw (fact 𝓤 _) ∷ raw (fact 𝓤 Sees) ∷ []) ∵ keep ! (2 ∷ 0 ∷ []) $ heard ! Sees (λ sees.
    let x : T.Denot = sees.0 in let X : Fml = noted R γ (Some x) in let A : Fml = all_noted R ks in let m : N.Denot = record n { known = Some x } in
    let Cell : Type 0 = m.cell ≡ γ in let Told : Type 0 = (z : T.Denot) → Has ks γ z → m.known ≡ Some z in
    split ! $ split ! $ move ! (2 ∷ []) $ fsplit3 ! $ fsplit ! $ move ! (2 ∷ []) $ fsplit ! $ keep ! (3 ∷ 1 ∷ 5 ∷ 6 ∷ []) $ unhide ! $ fsplit ! $ drop ! $
    use1 𝓛 (‵ A ⊛ ‵ A) (all_twice 𝓛 R ks) $ split ! $ use1 𝓛 (‵ X) (one_of 𝓛 R γ x ks sees.1) $ use1 𝓛 (‵ X ⊛ ‵ X) (noted_twice 𝓛 R γ (Some x)) $ split ! $ move ! (1 ∷ 2 ∷ []) $
    use2 𝓛 (raw (fact 𝓤 (AgreesOn γ x ks))) (on_all 𝓛 R γ x ks) $ heard ! (AgreesOn γ x ks) (λ agrees.
    enter ! 𝓣.C 𝓣.Λ fn (p ∷ p' ∷ []) Post $ alloc_all ! (λ l. pass_all ! refl ((tt, tt), ((tt, tt), tt)) $
    move ! (3 ∷ []) $ fsplit ! $ move ! (3 ∷ 0 ∷ []) $ use2 𝓛 (later (‵ (noted R γ n.known) ⊛ raw (all 𝓤 Shuts))) (notes.note_opens 𝓛 R κ' q' b₀ o₀ ν₀ n) $ await ! tt $ split ! $ drop ! $ use1 𝓛 (raw (Shuts m)) (all_e 𝓤 Shuts m) $
    move ! (2 ∷ 0 ∷ []) $ use2 𝓛 (later (‵ (notes.lent 𝓛 R κ' q' b₀ o₀ ν₀ m) ⊛ ‵ (flft κ' q'))) (apply∗ 𝓤 (sem 𝓛 X) _) $ await ! tt $ split ! $
    feq_i ! (List Val) (p' ∷ []) (p' ∷ []) refl $ fjoin ! $ nothing ! $ move ! (1 ∷ 0 ∷ []) $ fjoin ! $ nothing ! $ fjoin ! $ move ! (1 ∷ 2 ∷ []) $ fjoin ! $ move ! (2 ∷ 0 ∷ []) $ join ! $
    sets ! (of_opd ! (unit_lit !)) refl (tt, tt) $ feq_i ! (List Val) (vunit ∷ []) (vunit ∷ []) refl $ use0 𝓛 (raw (fact 𝓤 Told)) (fact_i 𝓤 Told (emp 𝓤) (λ z h. ap Some (has_one γ x z ks agrees h))) $ use0 𝓛 (raw (fact 𝓤 Cell)) (fact_i 𝓤 Cell (emp 𝓤) refl) $ join ! $
    returns ! (look_at ! 0 refl) $ free_all ! refl $ keep ! (2 ∷ 3 ∷ 1 ∷ 0 ∷ []) $ by ! (leaves 𝓛 En hs c y vunit tt (tt, (m, tt)) (tt, (tt, tt)))))))
