use Rattle.catalogue.specs.Catalogue.{beginning_of}
use Rattle.std.proofs.Common.{false, ◌≡◌, List, [], ◌∷◌, length, slice_get, sym, ap, ◌∙◌, arith}
use Rattle.std.proofs.lemmas.List.{length-append}
use Rattle.replica.specs.Replica.{Replica}
use Rattle.dsm_world.specs.System.{progress_of}
use Rattle.dsm_world.specs.Together.{IsReplicaOf}
use Rattle.dsm_world.proofs.RunLemmas.{first_replica, first_progress, one_more_replica}
use Rattle.dsm_world.proofs.world.replicas_of.Goals as goal

pub loop-init : goal.loop-init
loop-init g c =
    let none = c.new-replicas.ensures.items in
    record {
      counted = ap (λ (xs : List Replica). length xs) none;
      each = λ k r at. absurd (let nowhere = ap (λ (xs : List Replica). slice_get xs k) (sym none) ∙ at in cc);
      fresh = λ k r at. absurd (let nowhere = ap (λ (xs : List Replica). slice_get xs k) (sym none) ∙ at in cc);
    }

pub loop-preserved : goal.loop-preserved
loop-preserved g c =
    let new = c.in_ok-new.field-0 in
    let more = c.in_ok-push.ensures.items in
    let stands = c.in_ok-new.ensures.stands in
    record {
      counted = (let count = ap (λ (xs : List Replica). length xs) more ∙ length-append c.loop.replicas.items (new ∷ []) in let before = c.loop.invariant.counted in omega arith);
      each = one_more_replica (λ r. IsReplicaOf c.args.catalogue.now c.args.window [] r) c.loop.replicas.items c.push.new.self.items new more
          (first_replica c.args.catalogue.now c.args.window new (c.catalogues_are_safe.ensures c.args.window)
          (record { delivered = stands; window = c.in_ok-new.ensures.window; tables = c.in_ok-new.ensures.tables; procedures = c.in_ok-new.ensures.for_tables })) c.loop.invariant.each;
      fresh = one_more_replica (λ r. progress_of r ≡ record { position = 0; stopped = false }) c.loop.replicas.items c.push.new.self.items new more (first_progress (beginning_of c.args.catalogue.now) new stands c.in_ok-new.ensures.running) c.loop.invariant.fresh;
    }
