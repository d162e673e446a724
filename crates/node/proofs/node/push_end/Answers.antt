use Rattle.std.proofs.lemmas.List.Elements.{All-push, All-same}
use Rattle.replica.specs.Replica.{AreEntriesOf, entries_of}
use Rattle.node.proofs.node.push_end.Goals as goal

pub returns-in-Some-clause-entries : goal.returns-in-Some-clause-entries
returns-in-Some-clause-entries g c =
    All-same (λ e. AreEntriesOf g.J.LogSetting.setting (entries_of e.seen)) c.push_reserved.new.self.items _ c.push_reserved.ensures.items
    (All-push (λ e. AreEntriesOf g.J.LogSetting.setting (entries_of e.seen)) c.args.ended.now.items c.of.result c.requires.entries c.of.ensures.entries)
