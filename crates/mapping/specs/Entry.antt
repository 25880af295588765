-- Document 01, "Frame records and mapping list": one mapping, request N2's order of space, then page, and the mapping at a place of the list.
use Rattle.std.specs.Prelude.{Bool, ◌&&◌, ◌||◌, ℕ, eqb, leb, ltb, get_or}
use Rattle.board.specs.declared.Board.{Board}
use Rattle.board.specs.Board.{spaces, pages}
use Rattle.mapping.specs.declared.Mapping.{Mapping}
use Rattle.mapping.specs.declared.MappingList.{MappingList}

-- how many records the list has
abbrev pub capacity : ℕ
capacity = 256

-- the three rights: read; read and write; read and fetch (request N8)
abbrev pub read_only : ℕ
read_only = 1

abbrev pub read_write : ℕ
read_write = 2

abbrev pub read_fetch : ℕ
read_fetch = 3

-- whether a number is that of rights (request N8: 1 to 3)
abbrev pub is_rights : ℕ → Bool
is_rights rights = leb read_only rights && leb rights read_fetch

-- the record of a place that holds no mapping
abbrev pub zero_mapping : Mapping
zero_mapping = record { space = 0; page = 0; frame = 0; rights = 0 }

-- whether space, page, frame and rights lie in their ranges
unfoldable pub in_range : Board → Mapping → Bool
in_range b m =
    ltb m.space spaces && ltb m.page pages && ltb m.frame b.frames && is_rights m.rights

-- whether all fields are 0
unfoldable pub is_zero : Mapping → Bool
is_zero m = eqb m.space 0 && eqb m.page 0 && eqb m.frame 0 && eqb m.rights 0

-- whether m maps this page of this space
unfoldable pub is_at : Mapping → ℕ → ℕ → Bool
is_at m space page = eqb m.space space && eqb m.page page

-- whether m stands before this page of this space: in a smaller space, or in the same one at a smaller page
unfoldable pub is_before : Mapping → ℕ → ℕ → Bool
is_before m space page = ltb m.space space || (eqb m.space space && ltb m.page page)

-- the record at place i, all 0 past the last
abbrev pub mapping_at : MappingList → ℕ → Mapping
mapping_at l i = get_or l.items i zero_mapping
