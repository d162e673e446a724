-- Rows with which a database begins, and requests that were done before.
use Rattle.std.proofs.Common.{◌≡◌, ◌∙◌, ℕ, zero, suc, ◌+◌, ◌<◌, arith, subst, is_some, Bool, true, false, cond, List, [], ◌∷◌, length, drop, get_or, refl, sym, ap}
use Rattle.std.specs.Prelude.{Option, Some, None, ◌^◌}
use Rattle.std.specs.Option.{option_map}
use Rattle.std.specs.FinMap.{get, insert}
use Rattle.std.proofs.lemmas.List.{drop_more}
use Rattle.schema.specs.Schema.{Tables}
use Rattle.schema.specs.Rows.{Rows, AreRows}
use Rattle.schema.proofs.RowsLemmas.{rows_with_put}
use Rattle.log_model.specs.declared.request.RequestId.{RequestId}
use Rattle.log_model.specs.Log.{DoneRequest, same_request, done_under, reply_done}

pub next_done : (done : List DoneRequest) (i : ℕ) (d : DoneRequest) → i < length done → d ≡ get_or done i d → drop i done ≡ d ∷ drop (i + 1) done
next_done done i d lt is = drop_more done i d lt ∙ ap (λ (x : DoneRequest). x ∷ drop (i + 1) done) (sym is)

pub none_is_done : (done : List DoneRequest) → reply_done done None ≡ None
none_is_done [] = refl
none_is_done (d ∷ done) = none_is_done done

pub done_here : (request : Option RequestId) (d : DoneRequest) (later : List DoneRequest) → same_request request (Some d.request) ≡ true → reply_done (d ∷ later) request ≡ Some d.reply
done_here request d later is = ap (λ (b : Bool). option_map (λ (x : DoneRequest). x.reply) (cond b (Some d) (done_under later request))) is

pub done_later : (request : Option RequestId) (d : DoneRequest) (later : List DoneRequest) → same_request request (Some d.request) ≡ false → reply_done (d ∷ later) request ≡ reply_done later request
done_later request d later is = ap (λ (b : Bool). option_map (λ (x : DoneRequest). x.reply) (cond b (Some d) (done_under later request))) is

-- ---- one row more

each_byte : (xs : List ℕ) → ((i : ℕ) → get_or xs i 0 < 256) → (k d : ℕ) → k < length xs → get_or xs k d < 256
each_byte [] h k d lt = absurd (omega arith)
each_byte (x ∷ xs) h zero d lt = h zero
each_byte (x ∷ xs) h (suc k) d lt = each_byte xs (λ i. h (suc i)) k d (omega arith)

pub row_more : (tables : Tables) (rows new : Rows) (table key : ℕ) (bytes : List ℕ) → AreRows tables rows → get tables table ≡ Some (length bytes) → key < 2 ^ 64
    → ((i : ℕ) → get_or bytes i 0 < 256) → new ≡ insert rows (table, key) bytes → AreRows tables new
row_more tables rows new table key bytes are wide fits each is =
    subst (AreRows tables) (sym is)
    (rows_with_put tables rows table key bytes (record {
      at_key = record { table_is = ap is_some wide; key_fits = fits };
      width = wide;
      each_byte = each_byte bytes each;
    }) are)
