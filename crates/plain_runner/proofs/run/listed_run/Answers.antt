use Rattle.plain_runner.proofs.ListedLemmas.{listed_map, listed_order}
use Rattle.plain_runner.proofs.run.listed_run.Goals as goal

pub invariant_of-result : goal.invariant_of-result
invariant_of-result g c = (listed_order _ c.args.state.writes c.in_ok-writes.ensures, listed_order _ c.args.state.rows c.in_ok-rows.ensures)

pub returns : goal.returns
returns g c =
    let writes = listed_map c.in_ok-writes.writes.items c.args.state.writes c.in_ok-writes.ensures in
    let rows = listed_map c.in_ok-rows.rows.items c.args.state.rows c.in_ok-rows.ensures in
    λ i. record {
      steps = c.args.state.steps;
      reply = c.args.reply;
      looks = c.args.state.looks.items;
      writes = writes i;
      cancel_code = c.args.state.cancel_code;
      effect = rows i;
    }
