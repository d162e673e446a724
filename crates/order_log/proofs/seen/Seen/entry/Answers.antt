use Rattle.std.proofs.Common.{rules, ◌≡◌, ◌<◌, Option, Some, None, arith, ap, subst, ◌∙◌}
use Rattle.once_cell.specs.Once.{Agrees}
use Rattle.order_log.proofs.Places.{few_entries, held_at, has_group, has_cell}
use Rattle.order_log.proofs.seen.Seen.entry.Goals as goal

is_known : {X : Type 0} (known : Option X) (x y : X) → known ≡ Some x → Agrees known y → x ≡ y
is_known known x y told agrees = subst (λ k. Agrees k y) told agrees

not_none : {X : Type 0} (known : Option X) (x : X) → known ≡ Some x → known ≡ None → ⊥
not_none known x told none = cc

pub tell-requires : goal.tell-requires
tell-requires g c =
    let me = c.self.inside in let k = c.args.place in let names = g.J.LogIdentity.groups in
    let h = held_at names k me.groups.known me.cells.known c.args.self.now c.self.invariant.2 c.self.view_is c.requires.place in
    (h.cells, has_group names c.args.groups.now k c.note-note.result.cell me.groups.known me.cells.known h (c.note-note.ensures.0 ∙ c.at-cell.ensures) c.requires.groups)

pub unreachable-requires : goal.unreachable-requires
unreachable-requires g c =
    let me = c.self.inside in let k = c.args.place in let names = g.J.LogIdentity.groups in
    let h = held_at names k me.groups.known me.cells.known c.args.self.now c.self.invariant.2 c.self.view_is c.requires.place in
    let told = c.tell.ensures.known h.cells (has_group names c.args.groups.now k c.note-note.result.cell me.groups.known me.cells.known h (c.note-note.ensures.0 ∙ c.at-cell.ensures) c.requires.groups) in
    not_none c.tell.new.note.known h.cells told c.in_default.ensures.value.0

pub tell-requires-2 : goal.tell-requires-2
tell-requires-2 g c =
    let me = c.self.inside in let k = c.args.place in let names = g.J.LogIdentity.groups in
    let h = held_at names k me.groups.known me.cells.known c.args.self.now c.self.invariant.2 c.self.view_is c.requires.place in
    let told = c.tell.ensures.known h.cells (has_group names c.args.groups.now k c.note-note.result.cell me.groups.known me.cells.known h (c.note-note.ensures.0 ∙ c.at-cell.ensures) c.requires.groups) in
    let group = is_known c.tell.new.note.known h.cells c.in-Some.group.now told c.in-Some.ensures.value.1 in
    (h.entry, has_cell names c.in-Some.group.now k c.note-note-2.result.cell me.groups.known me.cells.known h (c.note-note-2.ensures.0 ∙ c.at-cell-2.ensures) group)

pub unreachable-requires-in-None : goal.unreachable-requires-in-None
unreachable-requires-in-None g c =
    let me = c.self.inside in let k = c.args.place in let names = g.J.LogIdentity.groups in
    let h = held_at names k me.groups.known me.cells.known c.args.self.now c.self.invariant.2 c.self.view_is c.requires.place in
    let told = c.tell.ensures.known h.cells (has_group names c.args.groups.now k c.note-note.result.cell me.groups.known me.cells.known h (c.note-note.ensures.0 ∙ c.at-cell.ensures) c.requires.groups) in
    let group = is_known c.tell.new.note.known h.cells c.in-Some.group.now told c.in-Some.ensures.value.1 in
    let found = c.tell-2.ensures.known h.entry (has_cell names c.in-Some.group.now k c.note-note-2.result.cell me.groups.known me.cells.known h (c.note-note-2.ensures.0 ∙ c.at-cell-2.ensures) group) in
    not_none c.tell-2.new.note.known h.entry found c.in-None.ensures.value.0

pub returns : goal.returns
returns g c =
    let me = c.self.inside in let k = c.args.place in let names = g.J.LogIdentity.groups in
    let h = held_at names k me.groups.known me.cells.known c.args.self.now c.self.invariant.2 c.self.view_is c.requires.place in
    let told = c.tell.ensures.known h.cells (has_group names c.args.groups.now k c.note-note.result.cell me.groups.known me.cells.known h (c.note-note.ensures.0 ∙ c.at-cell.ensures) c.requires.groups) in
    let group = is_known c.tell.new.note.known h.cells c.in-Some.group.now told c.in-Some.ensures.value.1 in
    let found = c.tell-2.ensures.known h.entry (has_cell names c.in-Some.group.now k c.note-note-2.result.cell me.groups.known me.cells.known h (c.note-note-2.ensures.0 ∙ c.at-cell-2.ensures) group) in
    let same = is_known c.tell-2.new.note.known h.entry c.in-Some-get_as.entry.now found c.in-Some-get_as.ensures.value.1 in
    rw (← c.self.view_is) (h.found ∙ ap Some same)
