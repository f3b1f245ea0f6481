-- When the log of a book agrees with the log of a sheet.
use Rattle.std.specs.Prelude.{◌≡◌, length, take}
use Rattle.machine.specs.Machines.{exchanges}
use Rattle.places.specs.Placing.{places_of}
use Rattle.sheet.specs.Sheets.{Plan, Log as SheetLog, kept, untimed, last_end}
use Rattle.sheet.specs.Runs.{Reached}
use Rattle.book.specs.declared.log.Log.{Log}

-- The sheet can come about, and the log has its places, its done gates, its free cycles, and what is counted of its kept steps.
pub record Agrees (p : Plan) (s : Log) (l : SheetLog) : Type 0 where
  pub reached : Reached p l
  pub places : l.places ≡ places_of s.places
  pub done : l.done ≡ take (length p.gates) s.done
  pub free : l.free ≡ take p.chart.wires s.free
  pub kept : kept l ≡ s.kept
  pub exchanges : length (exchanges (untimed l.steps)) ≡ s.exchanges
  pub last : last_end p.chart l.steps ≡ s.last
