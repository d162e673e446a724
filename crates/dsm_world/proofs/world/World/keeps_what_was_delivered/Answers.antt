use Rattle.std.proofs.Common.{◌≡◌, ◌++◌, Some, subst}
use Rattle.log_model.specs.Fit.{BeginsSafely}
use Rattle.log_model.specs.declared.verdict.Verdict.TheVariants.{Commit}
use Rattle.log_model.specs.Log.{run_in, verdict_of}
use Rattle.log_model.specs.Entries.{CallEntry}
use Rattle.dsm_model.specs.Sound.{IsSerialReply, IsSound, IsWorld}
use Rattle.dsm_model.specs.World.{numbered, open_call}
use Rattle.replica.specs.Replica.{AreEntriesOf}
use Rattle.catalogue.specs.Catalogue.{IsCatalogue}
use Rattle.dsm_world.specs.System.{SystemWorld, setting_of, world_of, KeepsDelivered}
use Rattle.dsm_world.specs.Fields.{system_of, call_slots}
use Rattle.dsm_world.proofs.RunLemmas.{keeps_delivered}
use Rattle.dsm_world.proofs.world.World.keeps_what_was_delivered.Goals as goal

pub returns-clause-world : goal.returns-clause-world
returns-clause-world g c = subst (λ (s : SystemWorld). IsWorld (setting_of s) (world_of s)) c.self.view_is c.self.invariant.together.world

pub returns-clause-catalogue : goal.returns-clause-catalogue
returns-clause-catalogue g c = subst (λ (s : SystemWorld). IsCatalogue s.catalogue) c.self.view_is c.each_catalogue_is_consistent.ensures

pub returns-clause-begins : goal.returns-clause-begins
returns-clause-begins g c = subst (λ (s : SystemWorld). BeginsSafely (setting_of s)) c.self.view_is c.self.invariant.together.entries.begins

pub returns-clause-entries : goal.returns-clause-entries
returns-clause-entries g c = subst (λ (s : SystemWorld). AreEntriesOf (setting_of s) s.entries) c.self.view_is c.self.invariant.together.entries

pub returns-clause-replicas : goal.returns-clause-replicas
returns-clause-replicas g c n r =
    subst (λ (s : SystemWorld). numbered s.replicas n ≡ Some r → KeepsDelivered s r) c.self.view_is
    (keeps_delivered (system_of c.self.inside) (call_slots c.self.inside) n r c.replicas_follow_the_log.ensures.rows c.replicas_follow_the_log.ensures.procedures c.self.invariant.together)

pub returns-clause-sound : goal.returns-clause-sound
returns-clause-sound g c n o =
    subst (λ (s : SystemWorld). open_call (world_of s) n ≡ Some o → IsSound (setting_of s) (world_of s).log o) c.self.view_is
    (c.open_calls_are_sound.ensures (setting_of (system_of c.self.inside)) (world_of (system_of c.self.inside)) n o c.self.invariant.together.entries.begins c.self.invariant.together.world)

pub returns-clause-stays : goal.returns-clause-stays
returns-clause-stays g c n o more =
    subst (λ (s : SystemWorld). open_call (world_of s) n ≡ Some o → run_in (setting_of s) ((world_of s).log ++ more) o.call ≡ run_in (setting_of s) (world_of s).log o.call) c.self.view_is
    (c.open_calls_keep_their_replies.ensures.reply (setting_of (system_of c.self.inside)) (world_of (system_of c.self.inside)) n o more c.self.invariant.together.world)

pub returns-clause-carried : goal.returns-clause-carried
returns-clause-carried g c position e =
    subst (λ (s : SystemWorld). numbered s.entries position ≡ Some (CallEntry e) → e.reply ≡ (run_in (setting_of s) (world_of s).log e.call).reply) c.self.view_is
    (c.entries_carry_serial_replies.ensures.carried (setting_of (system_of c.self.inside)) (system_of c.self.inside).entries position e c.self.invariant.together.entries.runs)

pub returns-clause-serial : goal.returns-clause-serial
returns-clause-serial g c position e =
    let is = c.self.invariant.together.entries in
    subst (λ (s : SystemWorld). numbered s.entries position ≡ Some (CallEntry e) → verdict_of (setting_of s) (world_of s).log position ≡ Some Commit → IsSerialReply (setting_of s) (world_of s).log position e.reply) c.self.view_is
    (c.entries_carry_serial_replies.ensures.serial (setting_of (system_of c.self.inside)) (system_of c.self.inside).entries position e is.begins is.log is.items is.runs)
