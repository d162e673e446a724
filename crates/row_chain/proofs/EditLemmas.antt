-- Slots in order after one is changed, and after one more.
use Rattle.std.proofs.Common.{◌≡◌, ℕ, zero, suc, ◌≤◌, ◌<◌, ◌^◌, eqb, Bool, true, false, cond, List, [], ◌∷◌, ◌++◌, length, set, get_or, refl, sym, ap, subst, ◌∙◌, arith}
use Rattle.std.specs.Prelude.{◌≢◌, Option, Some, None, Result, Ok, Err, is_ok, OnOk, IfSome}
use Rattle.std.specs.List.{insert}
use Rattle.std.specs.Option.{IsSomeAnd}
use Rattle.std.proofs.lemmas.Bool.{eq-eqb, ne_eqb, eqb-true}
use Rattle.row_chain.specs.Version.{Version, ChainState, HasRoom}
use Rattle.row_chain.specs.Slots.{Slot, AreAbove, AreRising, AreSlotsOf, below, chain_at, versions_in, versions_at, HasRoomAt}
use Rattle.row_chain.proofs.TableLemmas.{below_cases, above_at}

-- two tests that don't both pass may be made in either order
apart : {X : Type 0} (a b q : ℕ) (x y z : X) → a ≢ b → cond (eqb a q) x (cond (eqb b q) y z) ≡ cond (eqb b q) y (cond (eqb a q) x z)
apart a b q x y z ne =
    elim (eqb a q) as (λ (t : Bool). eqb a q ≡ t → cond t x (cond (eqb b q) y z) ≡ cond (eqb b q) y (cond t x z)) [
      | true ↦ λ e. sym (ap (λ (t : Bool). cond t y x) (ne_eqb b q (λ f. ne (eqb-true a q e ∙ sym f))))
      | false ↦ λ e. refl
    ] refl

again : {X : Type 0} (b : Bool) (x y z : X) → cond b x z ≡ cond b x (cond b y z)
again true x y z = refl
again false x y z = refl

pub chain-set : (es : List Slot) (i : ℕ) (x d : Slot) (q : ℕ) → AreRising es → i < length es → x.key ≡ (get_or es i d).key → chain_at (set es i x) q ≡ cond (eqb x.key q) (Some x.chain) (chain_at es q)
chain-set [] i x d q up lt same = absurd (omega arith)
chain-set (e ∷ es) zero x d q up lt same = again (eqb x.key q) (Some x.chain) (Some e.chain) (chain_at es q) ∙ ap (λ (k : ℕ). cond (eqb x.key q) (Some x.chain) (cond (eqb k q) (Some e.chain) (chain_at es q))) same
chain-set (e ∷ es) (suc i) x d q up lt same =
    let above : e.key < (get_or es i d).key = above_at e.key es i d up.0 (omega arith) in
    ap (λ (o : Option ChainState). cond (eqb e.key q) (Some e.chain) o) (chain-set es i x d q up.1 (omega arith) same)
    ∙ apart e.key x.key q (Some e.chain) (Some x.chain) (chain_at es q) (λ f. absurd (omega arith))

above-set : (n : ℕ) (es : List Slot) (i : ℕ) (x d : Slot) → AreAbove n es → i < length es → x.key ≡ (get_or es i d).key → AreAbove n (set es i x)
above-set n [] i x d h lt same = tt
above-set n (e ∷ es) zero x d h lt same = let l : n < e.key = h.0 in (omega arith, h.1)
above-set n (e ∷ es) (suc i) x d h lt same = (h.0, above-set n es i x d h.1 (omega arith) same)

moved : (n m : ℕ) (es : List Slot) → AreAbove n es → m ≡ n → AreAbove m es
moved n m es h same = subst (λ (k : ℕ). AreAbove k es) (sym same) h

pub rising-set : (es : List Slot) (i : ℕ) (x d : Slot) → AreRising es → i < length es → x.key ≡ (get_or es i d).key → AreRising (set es i x)
rising-set [] i x d up lt same = tt
rising-set (e ∷ es) zero x d up lt same = (moved e.key x.key es up.0 same, up.1)
rising-set (e ∷ es) (suc i) x d up lt same = (above-set e.key es i x d up.0 (omega arith) same, rising-set es i x d up.1 (omega arith) same)

pub chain-insert : (es : List Slot) (x : Slot) (q : ℕ) → chain_at (insert es (below x.key es) x) q ≡ cond (eqb x.key q) (Some x.chain) (chain_at es q)
chain-insert [] x q = refl
chain-insert (e ∷ es) x q =
    below_cases x.key e es (λ n. chain_at (insert (e ∷ es) n x) q ≡ cond (eqb x.key q) (Some x.chain) (chain_at (e ∷ es) q))
    (λ low. ap (λ (o : Option ChainState). cond (eqb e.key q) (Some e.chain) o) (chain-insert es x q) ∙ apart e.key x.key q (Some e.chain) (Some x.chain) (chain_at es q) (λ f. absurd (omega arith)))
    (λ high. refl)

above-insert : (n : ℕ) (es : List Slot) (x : Slot) (i : ℕ) → AreAbove n es → n < x.key → AreAbove n (insert es i x)
above-insert n es x zero h lt = (lt, h)
above-insert n [] x (suc i) h lt = (lt, tt)
above-insert n (e ∷ es) x (suc i) h lt = (h.0, above-insert n es x i h.1 lt)

pub raised : (n m : ℕ) (es : List Slot) → AreAbove n es → m ≤ n → AreAbove m es
raised n m [] h le = tt
raised n m (y ∷ es) h le = let lt : n < y.key = h.0 in (omega arith, raised n m es h.1 le)

pub some-none : {X : Type 0} (x : X) → Some x ≡ None → ⊥
some-none x e = absurd (cc)

pub rising-insert : (es : List Slot) (x : Slot) → AreRising es → chain_at es x.key ≡ None → AreRising (insert es (below x.key es) x)
rising-insert [] x up none = (tt, tt)
rising-insert (e ∷ es) x up none =
    let ne : e.key ≢ x.key = λ same. some-none e.chain (sym (ap (λ (t : Bool). cond t (Some e.chain) (chain_at es x.key)) (eq-eqb e.key x.key same)) ∙ none) in
    let later : chain_at es x.key ≡ None = sym (ap (λ (t : Bool). cond t (Some e.chain) (chain_at es x.key)) (ne_eqb e.key x.key ne)) ∙ none in
    below_cases x.key e es (λ n. AreRising (insert (e ∷ es) n x))
    (λ low. (above-insert e.key es x (below x.key es) up.0 low, rising-insert es x up.1 later))
    (λ high. let gt : x.key < e.key = omega arith in ((gt, raised e.key x.key es up.0 (omega arith)), up))

-- ---- the widths

pub wide-get : (w : ℕ) (es : List Slot) (i : ℕ) (d : Slot) → AreSlotsOf w es → i < length es → (get_or es i d).chain.width ≡ w
wide-get w [] i d h lt = absurd (omega arith)
wide-get w (e ∷ es) zero d h lt = h.0.0
wide-get w (e ∷ es) (suc i) d h lt = wide-get w es i d h.1 (omega arith)

pub word-get : (w : ℕ) (es : List Slot) (i : ℕ) (d : Slot) → AreSlotsOf w es → i < length es → (get_or es i d).key < 2 ^ 64
word-get w [] i d h lt = absurd (omega arith)
word-get w (e ∷ es) zero d h lt = h.0.1
word-get w (e ∷ es) (suc i) d h lt = word-get w es i d h.1 (omega arith)

wide-set : (w : ℕ) (es : List Slot) (i : ℕ) (x : Slot) → AreSlotsOf w es → (x.chain.width ≡ w) × (x.key < 2 ^ 64) → AreSlotsOf w (set es i x)
wide-set w [] i x h is = tt
wide-set w (e ∷ es) zero x h is = (is, h.1)
wide-set w (e ∷ es) (suc i) x h is = (h.0, wide-set w es i x h.1 is)

wide-insert : (w : ℕ) (es : List Slot) (i : ℕ) (x : Slot) → AreSlotsOf w es → (x.chain.width ≡ w) × (x.key < 2 ^ 64) → AreSlotsOf w (insert es i x)
wide-insert w es zero x h is = (is, h)
wide-insert w [] (suc i) x h is = (is, tt)
wide-insert w (e ∷ es) (suc i) x h is = (h.0, wide-insert w es i x h.1 is)

-- a greater number has no chain
pub none_past : (w q : ℕ) (es : List Slot) → AreSlotsOf w es → 2 ^ 64 ≤ q → chain_at es q ≡ None
none_past w q [] h past = refl
none_past w q (e ∷ es) h past =
    let word : e.key < 2 ^ 64 = h.0.1 in
    let other : e.key ≢ q = λ same. let less : q < 2 ^ 64 = subst (λ (j : ℕ). j < 2 ^ 64) same word in absurd (omega arith) in
    ap (λ (t : Bool). cond t (Some e.chain) (chain_at es q)) (ne_eqb e.key q other) ∙ none_past w q es h.1 past

-- the chain of a key that has one
pub wide-chain : (w n k : ℕ) (es : List Slot) → AreSlotsOf w es → n ≡ w → HasRoomAt es k → IsSomeAnd (chain_at es k) (λ c. n ≡ c.width)
wide-chain w n k [] h is room = room
wide-chain w n k (e ∷ es) h is room =
    (elim (eqb e.key k) as (λ (t : Bool). IsSomeAnd (cond t (Some e.chain) (chain_at es k)) HasRoom → IsSomeAnd (cond t (Some e.chain) (chain_at es k)) (λ c. n ≡ c.width)) [
      | true ↦ λ r. is ∙ sym h.0.0
      | false ↦ λ r. wide-chain w n k es h.1 is r
    ]) room

-- a row of the table's width has the width of its key's chain
pub wide_row : {R : Type 0} (row : Option R) (n : R → ℕ) (w v k : ℕ) (es : List Slot) → AreSlotsOf w es → w ≡ v → HasRoomAt es k → IfSome row (λ r. n r ≡ v) → IfSome row (λ r. IsSomeAnd (chain_at es k) (λ c. n r ≡ c.width))
wide_row None n w v k es h same room is = tt
wide_row (Some r) n w v k es h same room is = wide-chain w (n r) k es h (is ∙ sym same) room

-- ---- what a change of one chain leaves at each key

-- the versions stay where the chain's do
pub versions_same : (es new : List Slot) (k : ℕ) (chain : ChainState) (q : ℕ) → chain_at new q ≡ cond (eqb k q) (Some chain) (chain_at es q) → chain.versions ≡ versions_at es k → versions_at new q ≡ versions_at es q
versions_same es new k chain q is same =
    ap versions_in is ∙ elim (eqb k q) as (λ (t : Bool). eqb k q ≡ t → versions_in (cond t (Some chain) (chain_at es q)) ≡ versions_at es q) [
      | true ↦ λ e. same ∙ ap (versions_at es) (eqb-true k q e)
      | false ↦ λ e. refl
    ] refl

pub versions_changed : (es new : List Slot) (k : ℕ) (chain : ChainState) (q : ℕ) (vs : List Version) → chain_at new q ≡ cond (eqb k q) (Some chain) (chain_at es q) → chain.versions ≡ vs → versions_at new q ≡ cond (eqb k q) vs (versions_at es q)
versions_changed es new k chain q vs is same =
    ap versions_in is ∙ elim (eqb k q) as (λ (t : Bool). versions_in (cond t (Some chain) (chain_at es q)) ≡ cond t vs (versions_at es q)) [ true ↦ same | false ↦ refl ]

pub room_here : (es new : List Slot) (k : ℕ) (chain : ChainState) → chain_at new k ≡ cond (eqb k k) (Some chain) (chain_at es k) → HasRoom chain → HasRoomAt new k
room_here es new k chain is room = subst (λ (o : Option ChainState). IsSomeAnd o HasRoom) (sym (is ∙ ap (λ (t : Bool). cond t (Some chain) (chain_at es k)) (eq-eqb k k refl))) room

pub room_kept : (es new : List Slot) (k : ℕ) (chain : ChainState) (q : ℕ) → chain_at new q ≡ cond (eqb k q) (Some chain) (chain_at es q) → (HasRoomAt es k → HasRoom chain) → HasRoomAt es q → HasRoomAt new q
room_kept es new k chain q is more room =
    subst (λ (o : Option ChainState). IsSomeAnd o HasRoom) (sym is) (
    elim (eqb k q) as (λ (t : Bool). eqb k q ≡ t → IsSomeAnd (cond t (Some chain) (chain_at es q)) HasRoom) [
      | true ↦ λ e. more (subst (HasRoomAt es) (sym (eqb-true k q e)) room)
      | false ↦ λ e. room
    ] refl)

pub room_other : (es new : List Slot) (k : ℕ) (chain : ChainState) (q : ℕ) → chain_at new q ≡ cond (eqb k q) (Some chain) (chain_at es q) → k ≢ q → HasRoomAt es q → HasRoomAt new q
room_other es new k chain q is ne room = subst (λ (o : Option ChainState). IsSomeAnd o HasRoom) (sym (is ∙ ap (λ (t : Bool). cond t (Some chain) (chain_at es q)) (ne_eqb k q ne))) room

-- ---- the same, as the functions say it

abbrev pub nil : Slot
nil = record { key = 0; chain = record { versions = []; width = 0; places = 0; bytes = 0 } }

-- a key's place
pub record StandsAt (es : List Slot) (at k : ℕ) : Type 0 where
  pub within : at < length es
  pub key : (get_or es at nil).key ≡ k
  pub chain : chain_at es k ≡ Some (get_or es at nil).chain

-- a slot is changed at a key's place
pub record IsChanged (es new : List Slot) (k : ℕ) (x : Slot) : Type 0 where
  pub rising : AreRising new
  pub chains : (q : ℕ) → chain_at new q ≡ cond (eqb k q) (Some x.chain) (chain_at es q)

pub is_changed : (es new : List Slot) (at k : ℕ) (x : Slot) → AreRising es → StandsAt es at k → x.key ≡ (get_or es at nil).key → new ≡ set es at x → IsChanged es new k x
is_changed es new at k x up stands same is = record {
  rising = subst AreRising (sym is) (rising-set es at x nil up stands.within same);
  chains = λ q. ap (λ (l : List Slot). chain_at l q) is ∙ chain-set es at x nil q up stands.within same ∙ ap (λ (j : ℕ). cond (eqb j q) (Some x.chain) (chain_at es q)) (same ∙ stands.key);
}

pub is_inserted : (es new : List Slot) (at k : ℕ) (x : Slot) → AreRising es → chain_at es k ≡ None → at ≡ below k es → x.key ≡ k → new ≡ insert es at x → IsChanged es new k x
is_inserted es new at k x up none place same is =
    let here : new ≡ insert es (below x.key es) x = is ∙ ap (λ (i : ℕ). insert es i x) (place ∙ ap (λ (j : ℕ). below j es) (sym same)) in
    record {
      rising = subst AreRising (sym here) (rising-insert es x up (ap (chain_at es) same ∙ none));
      chains = λ q. ap (λ (l : List Slot). chain_at l q) here ∙ chain-insert es x q ∙ ap (λ (j : ℕ). cond (eqb j q) (Some x.chain) (chain_at es q)) same;
    }

pub wide_changed : (w : ℕ) (es new : List Slot) (at k : ℕ) (x : Slot) → AreSlotsOf w es → StandsAt es at k → x.key ≡ (get_or es at nil).key → x.chain.width ≡ (get_or es at nil).chain.width → new ≡ set es at x → AreSlotsOf w new
wide_changed w es new at k x h stands key same is =
    subst (AreSlotsOf w) (sym is) (wide-set w es at x h (same ∙ wide-get w es at nil h stands.within, subst (λ (j : ℕ). j < 2 ^ 64) (sym key) (word-get w es at nil h stands.within)))

pub wide_inserted : (w : ℕ) (es new : List Slot) (at : ℕ) (x : Slot) → AreSlotsOf w es → (x.chain.width ≡ w) × (x.key < 2 ^ 64) → new ≡ insert es at x → AreSlotsOf w new
wide_inserted w es new at x h same is = subst (AreSlotsOf w) (sym is) (wide-insert w es at x h same)

pub versions_pushed : (es new : List Slot) (k : ℕ) (x : Slot) (chain : ChainState) (v : Version) (q : ℕ) → IsChanged es new k x → chain_at es k ≡ Some chain → x.chain.versions ≡ chain.versions ++ v ∷ [] → versions_at new q ≡ cond (eqb k q) (versions_at es q ++ v ∷ []) (versions_at es q)
versions_pushed es new k x chain v q is at pushed =
    ap versions_in (is.chains q) ∙ elim (eqb k q) as (λ (t : Bool). eqb k q ≡ t → versions_in (cond t (Some x.chain) (chain_at es q)) ≡ cond t (versions_at es q ++ v ∷ []) (versions_at es q)) [
      | true ↦ λ e. pushed ∙ ap (λ (o : Option ChainState). versions_in o ++ v ∷ []) (sym at ∙ ap (chain_at es) (eqb-true k q e))
      | false ↦ λ e. refl
    ] refl

pub room_at : (es : List Slot) (k : ℕ) (chain : ChainState) → chain_at es k ≡ Some chain → HasRoomAt es k → HasRoom chain
room_at es k chain at room = subst (λ (o : Option ChainState). IsSomeAnd o HasRoom) at room

pub on_ok : {A E : Type 0} (r : Result A E) (P : Type 0) → (is_ok r ≡ true → P) → OnOk r P
on_ok (Ok x) P h = h refl
on_ok (Err e) P h = tt
