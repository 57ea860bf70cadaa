-- The words of the code and of laws about Shown, which a reader need not believe.
use Rattle.std.specs.Prelude.{List, map}
use Rattle.con_records.specs.declared.record.Record.{Record}
use Rattle.serde_json.specs.Data.{Data, Items}
use Rattle.serde_json.specs.View.{items_of}
use Rattle.con_lines.specs.Shown.{list_of, record_data}

abbrev pub items : List Data → Items
items ds = items_of ds

abbrev pub records_data : List Record → Data
records_data rs = list_of (map record_data rs)
