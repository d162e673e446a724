use Rattle.order_log.proofs.cells.GroupCells.group.Goals as goal

pub of-requires : goal.of-requires
of-requires g c = (c.in_ok-group.group.now, c.in_ok-group.ensures.value.0)
