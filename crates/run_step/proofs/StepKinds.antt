-- The kinds of step: which one is an unmap, and which is what is left past those before it.
use Rattle.std.proofs.Common.{◌≡◌, ◌≤◌, sym, refl, arith}
use mathlib.Core.Bool.{Bool, true, false, false≢true}
use denote.Enum.Declared.{tag_of}
use Rattle.board.specs.Board.{board01}
use Rattle.machine.specs.State.{unmap, evict}
use Rattle.sheet_codec.specs.declared.Fields.{Fields}
use Rattle.sheet_codec.specs.declared.Kind.{Kind}
use Rattle.sheet_codec.specs.declared.Kind.TheVariants.{Read, Write, DeviceRead, DeviceWrite, DeviceWritePart, BeginRead, BeginWrite, BringWord, TakeWord, EndTransfer, Fetch, Evict, Unmap}
use Rattle.sheet_codec.specs.Format.{call_of}
use Rattle.sheet_codec.specs.contracts.Kind.{the_type}

abbrev pub is_unmap : Kind → Bool
is_unmap Read = false
is_unmap Write = false
is_unmap DeviceRead = false
is_unmap DeviceWrite = false
is_unmap DeviceWritePart = false
is_unmap BeginRead = false
is_unmap BeginWrite = false
is_unmap BringWord = false
is_unmap TakeWord = false
is_unmap EndTransfer = false
is_unmap Fetch = false
is_unmap Evict = false
is_unmap Unmap = true

pub unmap_is : (f : Fields) (k : Kind) → is_unmap k ≡ true → unmap f.s f.p ≡ call_of board01 k f
unmap_is f Read e = absurd (false≢true e)
unmap_is f Write e = absurd (false≢true e)
unmap_is f DeviceRead e = absurd (false≢true e)
unmap_is f DeviceWrite e = absurd (false≢true e)
unmap_is f DeviceWritePart e = absurd (false≢true e)
unmap_is f BeginRead e = absurd (false≢true e)
unmap_is f BeginWrite e = absurd (false≢true e)
unmap_is f BringWord e = absurd (false≢true e)
unmap_is f TakeWord e = absurd (false≢true e)
unmap_is f EndTransfer e = absurd (false≢true e)
unmap_is f Fetch e = absurd (false≢true e)
unmap_is f Evict e = absurd (false≢true e)
unmap_is f Unmap e = refl

pub evict_is : (f : Fields) (k : Kind) → is_unmap k ≡ false → 11 ≤ tag_of the_type k → evict f.s ≡ call_of board01 k f
evict_is f Read e h = absurd (omega arith)
evict_is f Write e h = absurd (omega arith)
evict_is f DeviceRead e h = absurd (omega arith)
evict_is f DeviceWrite e h = absurd (omega arith)
evict_is f DeviceWritePart e h = absurd (omega arith)
evict_is f BeginRead e h = absurd (omega arith)
evict_is f BeginWrite e h = absurd (omega arith)
evict_is f BringWord e h = absurd (omega arith)
evict_is f TakeWord e h = absurd (omega arith)
evict_is f EndTransfer e h = absurd (omega arith)
evict_is f Fetch e h = absurd (omega arith)
evict_is f Evict e h = refl
evict_is f Unmap e h = absurd (false≢true (sym e))
