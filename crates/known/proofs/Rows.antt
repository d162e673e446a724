-- What a row owns can be had twice, grows at its end, and agrees with what any other row owns. Assumes `Logic`.
use Rattle.std.proofs.Common.{◌≡◌, ℕ, List, [], ◌∷◌, ◌++◌, Bool, true, false, eqb, eq-eqb, inl, inr, refl, ◌∙◌, arith}
use Rattle.std.proofs.lemmas.Bool.Decides.{nat_tests}
use seplogic.Ra.Ura.{Ura}
use mir.Val.{vstruct, vnil}
use base.Logic.{SProp, ent, sep, wand, all, via, emp, emp∗}
use base.Fml.{Lft, Share, Fml, ftrue, fsep, fobs, fbor, flft}
use types.SemTy.{Body}
use denote.Memory.{mem}
use contract.Monad.{fact, fact_i, fact_mono}
use types.Logic.{Logic, sem}
use types.Kit.{‵, raw, ◌⊛◌, ◌$◌, ◌∵◌, !, qed, use0, use1, use2, move, keep, split, fsplit, fjoin, rewrite, frame, each, assume, updating, now, done}
use denote.RattleType.{RattleType}
use denote.Shadow.{makes_shadow}
use denote.Steps.{heard, opens, closes}
use denote.Struct.Struct.{Struct}
use denote.Struct.Owning.{shape}
use Rattle.std.specs.declared.option.Option.TheVariants.{Some}
use Rattle.once_cell.specs.Once.{noted}
use Rattle.once_cell.proofs.Notes.{noted_twice}
use Rattle.known.specs.Agrees.{AgreesOn, AgreeAll, Has}
use Rattle.known.specs.Rows.{all_noted}
use Rattle.known.proofs.Made.{token_val, one_known}
use Rattle.known.specs.contracts.row.Row as Row

pub has_one : {X : Type 0} (γ : ℕ) (x z : X) (ks : List (ℕ × X)) → AgreesOn γ x ks → Has ks γ z → x ≡ z
has_one γ x z [] a h = elim h [ ]
has_one γ x z (k ∷ ks) a (inl h) = a.0 h.0 ∙ h.1
has_one γ x z (k ∷ ks) a (inr h) = has_one γ x z ks a.1 h

module _ {M : Type 1} {𝓤 : Ura M} (𝓛 : Logic 𝓤) (R : RattleType) where
  pub row_made : (ks : List (ℕ × R.Denot)) → ent 𝓤 (sem 𝓛 (all_noted R ks)) (sem 𝓛 ((Row.the_row R).own_val (record { marker = record {}; known = ks }) (token_val ∷ [])))
  row_made ks = let F = (Struct (shape (Row.the_type R))).own_val (tt, tt) (token_val ∷ []) in
      qed 𝓛 (‵ (all_noted R ks) ∷ []) ∵ use0 𝓛 (‵ F) (makes_shadow 𝓛 F (λ vss. (tt, ((λ uss. (tt, tt)), tt))) ((vstruct vnil ∷ [], tt), (refl, ((tt, (refl, tt)), tt)))) $ done !

  pub all_twice : (ks : List (ℕ × R.Denot)) → ent 𝓤 (sem 𝓛 (all_noted R ks)) (sep 𝓤 (sem 𝓛 (all_noted R ks)) (sem 𝓛 (all_noted R ks)))
  all_twice [] = emp∗ 𝓤 (emp 𝓤)
  all_twice (k ∷ ks) = let N : Fml = noted R k.0 (Some k.1) in let A : Fml = all_noted R ks in
      qed 𝓛 (‵ (fsep N A) ∷ []) ∵ fsplit ! $ use1 𝓛 (‵ N ⊛ ‵ N) (noted_twice 𝓛 R k.0 (Some k.1)) $ split ! $ move ! (2 ∷ []) $ use1 𝓛 (‵ A ⊛ ‵ A) (all_twice ks) $ split ! $
      move ! (2 ∷ 0 ∷ []) $ fjoin ! $ move ! (2 ∷ 1 ∷ []) $ fjoin ! $ done !

  pub all_more : (ks : List (ℕ × R.Denot)) (k : ℕ × R.Denot) → ent 𝓤 (sep 𝓤 (sem 𝓛 (all_noted R ks)) (sem 𝓛 (noted R k.0 (Some k.1)))) (sem 𝓛 (all_noted R (ks ++ k ∷ [])))
  all_more [] k = qed 𝓛 (‵ ftrue ∷ ‵ (noted R k.0 (Some k.1)) ∷ []) ∵ move ! (1 ∷ 0 ∷ []) $ fjoin ! $ done !
  all_more (j ∷ ks) k = let N : Fml = noted R k.0 (Some k.1) in let J : Fml = noted R j.0 (Some j.1) in let A : Fml = all_noted R ks in
      qed 𝓛 (‵ (fsep J A) ∷ ‵ N ∷ []) ∵ fsplit ! $ move ! (1 ∷ 2 ∷ []) $ use2 𝓛 (‵ (all_noted R (ks ++ k ∷ []))) (all_more ks k) $ move ! (1 ∷ 0 ∷ []) $ fjoin ! $ done !

  on_one : (γ : ℕ) (x : R.Denot) (k : ℕ × R.Denot) (b : Bool) → eqb k.0 γ ≡ b → ent 𝓤 (sep 𝓤 (sem 𝓛 (noted R γ (Some x))) (sem 𝓛 (noted R k.0 (Some k.1)))) (fact 𝓤 (k.0 ≡ γ → x ≡ k.1))
  on_one γ x k true is = let same : k.0 ≡ γ = grind (arith, nat_tests) in
      qed 𝓛 (‵ (noted R γ (Some x)) ∷ ‵ (noted R k.0 (Some k.1)) ∷ []) ∵ rewrite ! 1 (λ (j : ℕ). ‵ (noted R j (Some k.1))) same refl $ use2 𝓛 (raw (fact 𝓤 (k.0 ≡ γ → x ≡ k.1))) (via 𝓤 _ (one_known 𝓛 R γ x k.1) (fact_mono 𝓤 (x ≡ k.1) (k.0 ≡ γ → x ≡ k.1) (λ e _. e))) $ done !
  on_one γ x k false is = fact_i 𝓤 (k.0 ≡ γ → x ≡ k.1) _ (λ e. let t : eqb k.0 γ ≡ true = eq-eqb k.0 γ e in cc)

  pub on_all : (γ : ℕ) (x : R.Denot) (ks : List (ℕ × R.Denot)) → ent 𝓤 (sep 𝓤 (sem 𝓛 (noted R γ (Some x))) (sem 𝓛 (all_noted R ks))) (fact 𝓤 (AgreesOn γ x ks))
  on_all γ x [] = fact_i 𝓤 _ _ tt
  on_all γ x (k ∷ ks) = let N : Fml = noted R γ (Some x) in let K : Fml = noted R k.0 (Some k.1) in let A : Fml = all_noted R ks in let One : Type 0 = k.0 ≡ γ → x ≡ k.1 in
      qed 𝓛 (‵ N ∷ ‵ (fsep K A) ∷ []) ∵ use1 𝓛 (‵ N ⊛ ‵ N) (noted_twice 𝓛 R γ (Some x)) $ split ! $ move ! (2 ∷ []) $ fsplit ! $ move ! (2 ∷ 0 ∷ []) $ use2 𝓛 (raw (fact 𝓤 One)) (on_one γ x k (eqb k.0 γ) refl) $ heard ! One (λ one.
      move ! (1 ∷ 0 ∷ []) $ use2 𝓛 (raw (fact 𝓤 (AgreesOn γ x ks))) (on_all γ x ks) $ heard ! (AgreesOn γ x ks) (λ rest. use0 𝓛 (raw (fact 𝓤 (AgreesOn γ x (k ∷ ks)))) (fact_i 𝓤 (AgreesOn γ x (k ∷ ks)) (emp 𝓤) (one, rest)) $ done !))

  pub one_of : (γ : ℕ) (x : R.Denot) (ks : List (ℕ × R.Denot)) → Has ks γ x → ent 𝓤 (sem 𝓛 (all_noted R ks)) (sem 𝓛 (noted R γ (Some x)))
  one_of γ x [] h = elim h [ ]
  one_of γ x (k ∷ ks) (inl h) = qed 𝓛 (‵ (all_noted R (k ∷ ks)) ∷ []) ∵ fsplit ! $ rewrite ! 0 (λ (j : ℕ). ‵ (noted R j (Some k.1))) h.0 refl $ rewrite ! 0 (λ (z : R.Denot). ‵ (noted R γ (Some z))) h.1 refl $ keep ! (0 ∷ []) $ done !
  one_of γ x (k ∷ ks) (inr h) = qed 𝓛 (‵ (all_noted R (k ∷ ks)) ∷ []) ∵ fsplit ! $ move ! (1 ∷ []) $ use1 𝓛 (‵ (noted R γ (Some x))) (one_of γ x ks h) $ keep ! (0 ∷ []) $ done !

  pub all_agree : (js ks : List (ℕ × R.Denot)) → ent 𝓤 (sep 𝓤 (sem 𝓛 (all_noted R js)) (sem 𝓛 (all_noted R ks))) (fact 𝓤 (AgreeAll js ks))
  all_agree [] ks = fact_i 𝓤 _ _ tt
  all_agree (j ∷ js) ks = let N : Fml = noted R j.0 (Some j.1) in let J : Fml = all_noted R js in let A : Fml = all_noted R ks in
      qed 𝓛 (‵ (fsep N J) ∷ ‵ A ∷ []) ∵ fsplit ! $ move ! (2 ∷ []) $ use1 𝓛 (‵ A ⊛ ‵ A) (all_twice ks) $ split ! $ move ! (2 ∷ 0 ∷ []) $ use2 𝓛 (raw (fact 𝓤 (AgreesOn j.0 j.1 ks))) (on_all j.0 j.1 ks) $ heard ! (AgreesOn j.0 j.1 ks) (λ one.
      move ! (1 ∷ 0 ∷ []) $ use2 𝓛 (raw (fact 𝓤 (AgreeAll js ks))) (all_agree js ks) $ heard ! (AgreeAll js ks) (λ rest. use0 𝓛 (raw (fact 𝓤 (AgreeAll (j ∷ js) ks))) (fact_i 𝓤 (AgreeAll (j ∷ js) ks) (emp 𝓤) (one, rest)) $ done !))

  module _ (κ : Lft) (q : Share) (b o ν : ℕ) where
    abbrev pub lent : (Row.the_row R).Denot → Fml
    lent n = fsep (fobs ν ((Row.the_row R).coded.code n)) (fbor κ (Body (mem (Row.the_row R)) b o ν))

    abbrev pub Shuts : (Row.the_row R).Denot → SProp 𝓤
    Shuts n = wand 𝓤 (sem 𝓛 (all_noted R n.known)) (𝓛.H.⇛ (sep 𝓤 (sem 𝓛 (lent n)) (𝓛.A.lft κ q)))

    pub row_opens : (n : (Row.the_row R).Denot) → ent 𝓤 (sep 𝓤 (sem 𝓛 (lent n)) (𝓛.A.lft κ q)) (𝓛.H.⇛ (sep 𝓤 (sem 𝓛 (all_noted R n.known)) (all 𝓤 Shuts)))
    row_opens n = qed 𝓛 (‵ (lent n) ∷ ‵ (flft κ q) ∷ []) ∵ updating ! $ fsplit ! $ opens ! tt (Row.the_row R) b o (λ vs. move ! (1 ∷ []) $ fsplit ! $ now ! $ move ! (1 ∷ []) $ frame ! $
        each ! Shuts (λ m. assume ! (‵ (all_noted R m.known)) $ updating ! $ move ! (1 ∷ 0 ∷ []) $ fjoin ! $ move ! (1 ∷ 0 ∷ []) $ closes ! tt (Row.the_row R) m vs b o $ fjoin ! $ now ! $ done !))
