use Rattle.dsm_world.specs.System.{setting_of, world_of}
use Rattle.script_replay.proofs.ActedLemmas.{adds, done_as, done_so, orders, rebuilds, shows_rows, shows_log, shows_entry}
use Rattle.script_replay.proofs.actions.act.Goals as goal

pub returns-in-Add-clause-done : goal.returns-in-Add-clause-done
returns-in-Add-clause-done g c =
    done_so g.W.Write.contents (setting_of c.args.world.now) (world_of c.args.world.now) c.args.action.now _ _ c.args.output.now c.take_step.new.output c.take_step.result (world_of c.take_step.new.world) c.in-Add.is
    (adds (setting_of c.args.world.now) (world_of c.args.world.now) c.in-Add.procedure c.as_slice.result.now c.as_slice-in-Add.result.now c.as_slice.ensures c.as_slice-in-Add.ensures) c.take_step.ensures.done

pub returns-in-Order-clause-done : goal.returns-in-Order-clause-done
returns-in-Order-clause-done g c =
    done_so g.W.Write.contents (setting_of c.args.world.now) (world_of c.args.world.now) c.args.action.now _ _ c.args.output.now c.take_step-in-Order.new.output c.take_step-in-Order.result (world_of c.take_step-in-Order.new.world) c.in-Order.is
    (orders (setting_of c.args.world.now) (world_of c.args.world.now) c.in-Order.call) c.take_step-in-Order.ensures.done

pub returns-in-Rebuild-clause-done : goal.returns-in-Rebuild-clause-done
returns-in-Rebuild-clause-done g c =
    done_so g.W.Write.contents (setting_of c.args.world.now) (world_of c.args.world.now) c.args.action.now _ _ c.args.output.now c.take_step-in-Rebuild.new.output c.take_step-in-Rebuild.result (world_of c.take_step-in-Rebuild.new.world) c.in-Rebuild.is
    (rebuilds (setting_of c.args.world.now) (world_of c.args.world.now) c.in-Rebuild.replica) c.take_step-in-Rebuild.ensures.done

pub returns-in-Rows-clause-done : goal.returns-in-Rows-clause-done
returns-in-Rows-clause-done g c =
    done_as g.W.Write.contents (setting_of c.args.world.now) (world_of c.args.world.now) c.args.action.now _ c.args.output.now c.put_rows.new.output c.put_rows.result (world_of c.args.world.now) c.in-Rows.is
    (shows_rows g.W.Write.contents (setting_of c.args.world.now) (world_of c.args.world.now) c.in-Rows.replica c.args.output.now c.put_rows.new.output c.put_rows.result c.put_rows.ensures.given)

pub returns-in-Log-clause-done : goal.returns-in-Log-clause-done
returns-in-Log-clause-done g c =
    done_as g.W.Write.contents (setting_of c.args.world.now) (world_of c.args.world.now) c.args.action.now _ c.args.output.now c.put_log.new.output c.put_log.result (world_of c.args.world.now) c.in-Log.is
    (shows_log g.W.Write.contents (setting_of c.args.world.now) (world_of c.args.world.now) c.args.output.now c.put_log.new.output c.put_log.result c.put_log.ensures.given)

pub returns-in-Entry-clause-done : goal.returns-in-Entry-clause-done
returns-in-Entry-clause-done g c =
    done_as g.W.Write.contents (setting_of c.args.world.now) (world_of c.args.world.now) c.args.action.now _ c.args.output.now c.put_entry.new.output c.put_entry.result (world_of c.args.world.now) c.in-Entry.is
    (shows_entry g.W.Write.contents (setting_of c.args.world.now) (world_of c.args.world.now) c.in-Entry.position c.args.output.now c.put_entry.new.output c.put_entry.result c.put_entry.ensures.given)
