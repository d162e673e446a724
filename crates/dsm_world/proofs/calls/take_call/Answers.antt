use Rattle.std.proofs.Common.{map, option_map, Some, slice_set, sym, ap, ◌∙◌, arith}
use Rattle.dsm_model.specs.World.{flatten}
use Rattle.dsm_world.proofs.Numbered.{get_map, set_map, numbered_at}
use Rattle.dsm_world.proofs.ReplicaLemmas.{get_is}
use Rattle.dsm_world.proofs.calls.take_call.Goals as goal

pub returns-in_err-open_call-clause-none : goal.returns-in_err-open_call-clause-none
returns-in_err-open_call-clause-none g c none =
    let items = c.args.calls.now.items in
    let place = c.in_ok-at.ensures.there in
    let count = c.len.ensures in
    let lt = place.1 in
    let at = get_is items c.in_ok-at.at c.index_mut.result.now (omega arith) c.index_mut.ensures.value in
    ap flatten (numbered_at (map (λ slot. option_map (λ b. b.value) slot) items) c.args.number c.in_ok-at.at place.0 ∙ get_map (λ slot. option_map (λ b. b.value) slot) items c.in_ok-at.at ∙ ap (λ o. option_map (λ slot. option_map (λ b. b.value) slot) o) at)
    ∙ ap (λ slot. option_map (λ b. b.value) slot) (sym c.take.ensures.value ∙ c.in_err-open_call.was)

pub returns-clause-stood : goal.returns-clause-stood
returns-clause-stood g c =
    let items = c.args.calls.now.items in
    let place = c.in_ok-at.ensures.there in
    let count = c.len.ensures in
    let lt = place.1 in
    let at = get_is items c.in_ok-at.at c.index_mut.result.now (omega arith) c.index_mut.ensures.value in
    get_map (λ slot. option_map (λ b. b.value) slot) items c.in_ok-at.at ∙ ap (λ o. option_map (λ slot. option_map (λ b. b.value) slot) o) at
    ∙ ap (λ slot. Some (option_map (λ b. b.value) slot)) (sym c.take.ensures.value ∙ c.in_ok-open_call.was)

pub returns-clause-taken : goal.returns-clause-taken
returns-clause-taken g c =
    let items = c.args.calls.now.items in
    set_map (λ slot. option_map (λ b. b.value) slot) items c.in_ok-at.at c.take.new.self ∙ ap (λ slot. slice_set (map (λ slot. option_map (λ b. b.value) slot) items) c.in_ok-at.at (option_map (λ b. b.value) slot)) c.take.ensures.after
