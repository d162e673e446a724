-- What a store answers that has the rows no more.
use Rattle.txn_view.specs.declared.store.Gone.{Gone}

abbrev pub gone : Gone
gone = record {}
