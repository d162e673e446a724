-- An item in code, and the definition's.
use Rattle.log_model.specs.Log.{Item, CallItem, AdditionItem}
use Rattle.plain_replayer.specs.declared.item.PlainItemKind.{PlainItemKind}
use Rattle.plain_replayer.specs.declared.item.PlainItemKind.TheVariants.{Call, Addition}

abbrev pub item_of : {A : Type 0} → PlainItemKind A → Item
item_of (Call c) = CallItem c
item_of (Addition p) = AdditionItem p
