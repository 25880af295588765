-- A read and a fetch alike: each loads a word through one of the caches.
use Rattle.std.specs.Prelude.{ℕ}
use Rattle.board.specs.declared.Board.{Board}
use Rattle.board.specs.Board.{instruction_page}
use Rattle.page_model.specs.Table as table
use Rattle.page_model.specs.Table.{Step}
use Rattle.manager.specs.declared.AccessKind.{AccessKind}
use Rattle.manager.specs.declared.AccessKind.TheVariants.{Read, Fetch}
use Rattle.machine.specs.declared.accesses.Cache.{Cache}
use Rattle.machine.specs.declared.accesses.Cache.TheVariants.{Data, Instructions}
use Rattle.machine.specs.State.{Single, read, fetch}

abbrev pub access_through : Cache → AccessKind
access_through Data = Read
access_through Instructions = Fetch

abbrev pub load_step : Cache → ℕ → Step
load_step Data colour = table.read colour
load_step Instructions colour = table.fetch colour

abbrev pub page_through : Board → Cache → ℕ → ℕ
page_through b Data colour = colour
page_through b Instructions colour = instruction_page b colour

abbrev pub loads : Cache → ℕ → ℕ → ℕ → Single
loads Data space page offset = read space page offset
loads Instructions space page offset = fetch space page offset
