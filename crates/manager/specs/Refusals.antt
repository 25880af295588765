-- Document 01, "Answers": for each call the causes of refusal, in the order of the table. The first that applies is given.
use Rattle.std.specs.Prelude.{Bool, true, not, cond, ◌&&◌, ◌||◌, List, [], ◌∷◌, ◌++◌, ℕ, suc, ◌+◌, eqb, leb, ltb, length}
use Rattle.board.specs.declared.Board.{Board}
use Rattle.board.specs.Board.{spaces, pages, colour_of}
use Rattle.page_model.specs.Busy.{free, bars}
use Rattle.page_model.specs.Table.{Step, read, write, device_write_part, fetch}
use Rattle.mapping.specs.declared.MappingList.{MappingList}
use Rattle.mapping.specs.Batch.{batch_size}
use Rattle.mapping.specs.Entry.{capacity, is_rights, read_write, read_fetch}
use Rattle.mapping.specs.Lookup.{is_mapped, listed_mapping}
use Rattle.manager.specs.Tables.{Tables, record_at, lengths_right, rules_kept}

-- a refusal's number, and whether its condition holds
pub record Cause : Type 0 where
  pub number : ℕ
  pub applies : Bool

infix 30 ◌if◌
abbrev pub ◌if◌ : ℕ → Bool → Cause
n if c = record { number = n; applies = c }

-- the first cause that applies, or 0
unfoldable pub first_refusal : List Cause → ℕ
first_refusal [] = 0
first_refusal (c ∷ rest) = cond c.applies c.number (first_refusal rest)

-- ---- the order of the refusals

-- the numbers in the order in which document 01, with the requests, has them tested
abbrev pub refusal_order : List ℕ
refusal_order = 1 ∷ 12 ∷ 2 ∷ 3 ∷ 4 ∷ 5 ∷ 6 ∷ 13 ∷ 7 ∷ 8 ∷ 9 ∷ 10 ∷ 17 ∷ 15 ∷ 16 ∷ []

-- the first place of a number in a list, past its end where it is not listed
unfoldable pub place_in : List ℕ → ℕ → ℕ
place_in [] n = 0
place_in (m ∷ rest) n = cond (eqb m n) 0 (suc (place_in rest n))

-- the place of a refusal
unfoldable pub refusal_place : ℕ → ℕ
unfolding place_in
refusal_place n = place_in refusal_order n

-- whether each cause's number has a place in the order, the first at n or later, and each later than the one before it
unfoldable pub in_order : ℕ → List Cause → Bool
unfolding refusal_place
in_order n [] = true
in_order n (c ∷ rest) = leb n (refusal_place c.number) && ltb (refusal_place c.number) (length refusal_order) && in_order (suc (refusal_place c.number)) rest

-- ---- conditions

abbrev pub out_of_space : ℕ → ℕ → Bool
out_of_space space page = leb spaces space || leb pages page

-- of so many words from offset first on (request N3): there are none, or there is one past the page's last offset
abbrev pub out_of_page : Board → ℕ → ℕ → Bool
out_of_page b first number = eqb number 0 || ltb b.page (first + number)

-- ---- the causes that lie in a call's numbers, the list and the records: each has its number in document 01's table or in a request

abbrev pub space_cause : ℕ → ℕ → Cause
space_cause space page = 3 if out_of_space space page

abbrev pub frame_cause : Board → ℕ → Cause
frame_cause b frame = 4 if leb b.frames frame

abbrev pub rights_cause : ℕ → Cause
rights_cause rights = 5 if not (is_rights rights)

-- an offset in a page, or a line, past its limit
abbrev pub offset_cause : ℕ → ℕ → Cause
offset_cause limit offset = 6 if leb limit offset

abbrev pub part_cause : Board → ℕ → ℕ → Cause
part_cause b first number = 13 if out_of_page b first number

abbrev pub mapped_cause : MappingList → ℕ → ℕ → Cause
mapped_cause l space page = 7 if is_mapped l space page

abbrev pub unmapped_cause : MappingList → ℕ → ℕ → Cause
unmapped_cause l space page = 8 if not (is_mapped l space page)

abbrev pub full_cause : MappingList → Cause
full_cause l = 9 if eqb l.count capacity

-- a write through rights other than those to read and write, and a fetch through others than those to read and fetch (request N8)
abbrev pub write_rights_cause : ℕ → Cause
write_rights_cause rights = 10 if not (eqb rights read_write)

abbrev pub fetch_rights_cause : ℕ → Cause
fetch_rights_cause rights = 17 if not (eqb rights read_fetch)

-- request N6: the mark of the frame's record bars this step
abbrev pub busy_cause : List ℕ → ℕ → Step → Cause
busy_cause rs frame s = 15 if bars (record_at rs frame).busy s

-- a word is moved by a transfer with this mark, but the frame has another
abbrev pub word_cause : List ℕ → ℕ → ℕ → Cause
word_cause rs frame mark = 16 if not (eqb (record_at rs frame).busy mark)

-- a transfer is ended, but the frame has none
abbrev pub end_cause : List ℕ → ℕ → Cause
end_cause rs frame = 16 if eqb (record_at rs frame).busy free

-- a list of more mappings than a batch has, or of not as many as there are answers
abbrev pub batch_cause : ℕ → ℕ → Cause
batch_cause items answers = 12 if (ltb batch_size items || not (eqb answers items))

-- ---- the causes of each call

-- what each call tests of all that it is lent
unfoldable pub table_causes : Board → Tables → List Cause
table_causes b t = (1 if not (lengths_right b t)) ∷ (2 if not (rules_kept b t)) ∷ []

-- what a map tests besides: its numbers and the list
abbrev pub mapping_causes : Board → MappingList → ℕ → ℕ → ℕ → ℕ → List Cause
mapping_causes b l space page frame rights =
    space_cause space page
    ∷ frame_cause b frame
    ∷ rights_cause rights
    ∷ mapped_cause l space page
    ∷ full_cause l
    ∷ []

unfoldable pub map_causes : Board → Tables → ℕ → ℕ → ℕ → ℕ → List Cause
unfolding table_causes
map_causes b t space page frame rights = table_causes b t ++ mapping_causes b t.list space page frame rights

-- of an unmap, and of a read but for the mark
unfoldable pub page_causes : Board → Tables → ℕ → ℕ → List Cause
unfolding table_causes
page_causes b t space page = table_causes b t ++ space_cause space page ∷ unmapped_cause t.list space page ∷ []

unfoldable pub read_causes : Board → Tables → ℕ → ℕ → List Cause
unfolding page_causes
read_causes b t space page = page_causes b t space page ++ busy_cause t.records (listed_mapping t.list space page).frame (read (colour_of b page)) ∷ []

unfoldable pub write_causes : Board → Tables → ℕ → ℕ → List Cause
unfolding page_causes
write_causes b t space page =
    page_causes b t space page
    ++ write_rights_cause (listed_mapping t.list space page).rights
    ∷ busy_cause t.records (listed_mapping t.list space page).frame (write (colour_of b page))
    ∷ []

unfoldable pub fetch_causes : Board → Tables → ℕ → ℕ → List Cause
unfolding page_causes
fetch_causes b t space page =
    page_causes b t space page
    ++ fetch_rights_cause (listed_mapping t.list space page).rights
    ∷ busy_cause t.records (listed_mapping t.list space page).frame (fetch (colour_of b page))
    ∷ []

-- a transfer of a page, and the beginning of one
unfoldable pub transfer_causes : Board → Tables → ℕ → Step → List Cause
unfolding table_causes
transfer_causes b t frame s = table_causes b t ++ frame_cause b frame ∷ busy_cause t.records frame s ∷ []

-- a transfer of so many words from offset first on
unfoldable pub part_causes : Board → Tables → ℕ → ℕ → ℕ → List Cause
unfolding table_causes
part_causes b t frame first number =
    table_causes b t ++ frame_cause b frame ∷ part_cause b first number ∷ busy_cause t.records frame device_write_part ∷ []

-- a word at an offset, moved by a transfer with this mark
unfoldable pub word_causes : Board → Tables → ℕ → ℕ → ℕ → List Cause
unfolding table_causes
word_causes b t frame offset mark =
    table_causes b t ++ frame_cause b frame ∷ offset_cause b.page offset ∷ word_cause t.records frame mark ∷ []

-- the end of a transfer
unfoldable pub end_causes : Board → Tables → ℕ → List Cause
unfolding table_causes
end_causes b t frame = table_causes b t ++ frame_cause b frame ∷ end_cause t.records frame ∷ []
