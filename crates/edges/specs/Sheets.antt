-- The sheets of the table: document 01's with its text, one of a single step, a transfer that takes a while, and an overlay.
use Rattle.std.specs.Prelude.{List, [], ◌∷◌, ◌++◌, ℕ}

-- ---- document 01's sheet

abbrev pub example_sheet : List ℕ
example_sheet =
    2 ∷ 0
    ∷ 0 ∷ 0 ∷ 0 ∷ 3 ∷ 2
    ∷ 1 ∷ 9 ∷ 0 ∷ 3 ∷ 1
    ∷ 6 ∷ 0
    ∷ 1 ∷ 1 ∷ 9 ∷ 0 ∷ 0 ∷ 0 ∷ 0 ∷ 0 ∷ 0
    ∷ 2 ∷ 0 ∷ 0 ∷ 0 ∷ 0 ∷ 17 ∷ 0 ∷ 0 ∷ 0
    ∷ 1 ∷ 1 ∷ 9 ∷ 0 ∷ 0 ∷ 0 ∷ 0 ∷ 0 ∷ 0
    ∷ 4 ∷ 3 ∷ 0 ∷ 0 ∷ 0 ∷ 40 ∷ 0 ∷ 0 ∷ 0
    ∷ 1 ∷ 1 ∷ 9 ∷ 0 ∷ 2 ∷ 0 ∷ 0 ∷ 0 ∷ 0
    ∷ 2 ∷ 1 ∷ 9 ∷ 0 ∷ 0 ∷ 5 ∷ 0 ∷ 0 ∷ 0
    ∷ []

abbrev pub example_text : List ℕ
example_text =
    -- m0 0
    109 ∷ 48 ∷ 32 ∷ 48 ∷ 10
    -- m1 0
    ∷ 109 ∷ 49 ∷ 32 ∷ 48 ∷ 10
    -- 0 0 - - 0
    ∷ 48 ∷ 32 ∷ 48 ∷ 32 ∷ 45 ∷ 32 ∷ 45 ∷ 32 ∷ 48 ∷ 10
    -- 1 0 - - -
    ∷ 49 ∷ 32 ∷ 48 ∷ 32 ∷ 45 ∷ 32 ∷ 45 ∷ 32 ∷ 45 ∷ 10
    -- 2 0 F3.0 P3.1 17
    ∷ 50 ∷ 32 ∷ 48 ∷ 32 ∷ 70 ∷ 51 ∷ 46 ∷ 48 ∷ 32 ∷ 80 ∷ 51 ∷ 46 ∷ 49 ∷ 32 ∷ 49 ∷ 55 ∷ 10
    -- 3 0 - - -
    ∷ 51 ∷ 32 ∷ 48 ∷ 32 ∷ 45 ∷ 32 ∷ 45 ∷ 32 ∷ 45 ∷ 10
    -- 4 0 P3.1 - 42
    ∷ 52 ∷ 32 ∷ 48 ∷ 32 ∷ 80 ∷ 51 ∷ 46 ∷ 49 ∷ 32 ∷ 45 ∷ 32 ∷ 52 ∷ 50 ∷ 10
    -- 5 10 - - -
    ∷ 53 ∷ 32 ∷ 49 ∷ 48 ∷ 32 ∷ 45 ∷ 32 ∷ 45 ∷ 32 ∷ 45 ∷ 10
    -- end 1 2
    ∷ 101 ∷ 110 ∷ 100 ∷ 32 ∷ 49 ∷ 32 ∷ 50 ∷ 10
    ∷ []

-- ---- a sheet of one step of each kind

-- page 0 of space 0 mapped to frame 3, to read, and so many steps
abbrev pub steps : ℕ → List ℕ → List ℕ
steps number fields = 1 ∷ 0 ∷ 0 ∷ 0 ∷ 0 ∷ 3 ∷ 1 ∷ number ∷ 0 ∷ fields

abbrev pub one_step : List ℕ → List ℕ
one_step fields = steps 1 fields

-- `m0 0`, `0 R - - V`, `end 0 0`, of R's digits and V's one character
abbrev pub one_line : List ℕ → ℕ → List ℕ
one_line r v =
    109 ∷ 48 ∷ 32 ∷ 48 ∷ 10
    ∷ 48 ∷ 32 ∷ (r ++ (32 ∷ 45 ∷ 32 ∷ 45 ∷ 32 ∷ v ∷ 10
    ∷ 101 ∷ 110 ∷ 100 ∷ 32 ∷ 48 ∷ 32 ∷ 48 ∷ 10
    ∷ []))

-- ---- a sheet of the kinds of request N6

-- begin write of frame 3, word 7 to offset 63, end; begin read, the word at 63, end
abbrev pub card_sheet : List ℕ
card_sheet =
    steps 6
    (9 ∷ 3 ∷ 0 ∷ 0 ∷ 0 ∷ 0 ∷ 0 ∷ 0 ∷ 0
    ∷ 10 ∷ 3 ∷ 0 ∷ 0 ∷ 63 ∷ 7 ∷ 0 ∷ 0 ∷ 0
    ∷ 12 ∷ 3 ∷ 0 ∷ 0 ∷ 0 ∷ 0 ∷ 0 ∷ 0 ∷ 0
    ∷ 8 ∷ 3 ∷ 0 ∷ 0 ∷ 0 ∷ 0 ∷ 0 ∷ 0 ∷ 0
    ∷ 11 ∷ 3 ∷ 0 ∷ 0 ∷ 63 ∷ 0 ∷ 0 ∷ 0 ∷ 0
    ∷ 12 ∷ 3 ∷ 0 ∷ 0 ∷ 0 ∷ 0 ∷ 0 ∷ 0 ∷ 0
    ∷ [])

-- `K 0 - - V`, of K's and V's one character
abbrev pub plain_line : ℕ → ℕ → List ℕ
plain_line k v = k ∷ 32 ∷ 48 ∷ 32 ∷ 45 ∷ 32 ∷ 45 ∷ 32 ∷ v ∷ 10 ∷ []

abbrev pub card_text : List ℕ
card_text =
    -- m0 0
    (109 ∷ 48 ∷ 32 ∷ 48 ∷ 10 ∷ [])
    -- 0 0 - - -
    ++ plain_line 48 45
    -- 1 0 - - -
    ++ plain_line 49 45
    -- 2 0 - - -
    ++ plain_line 50 45
    -- 3 0 - - -
    ++ plain_line 51 45
    -- 4 0 - - 7
    ++ plain_line 52 55
    -- 5 0 - - -
    ++ plain_line 53 45
    -- end 0 0
    ++ 101 ∷ 110 ∷ 100 ∷ 32 ∷ 48 ∷ 32 ∷ 48 ∷ 10 ∷ []

-- ---- a sheet of request N8's kind

-- page 0 of space 0 mapped to frame 3, to read and write, and page 8 of it, of the same colour, to read and fetch: a fetch, a write of 9, and a fetch
abbrev pub overlay_sheet : List ℕ
overlay_sheet =
    2 ∷ 0
    ∷ 0 ∷ 0 ∷ 0 ∷ 3 ∷ 2
    ∷ 0 ∷ 8 ∷ 0 ∷ 3 ∷ 3
    ∷ 3 ∷ 0
    ∷ 13 ∷ 0 ∷ 8 ∷ 0 ∷ 0 ∷ 0 ∷ 0 ∷ 0 ∷ 0
    ∷ 2 ∷ 0 ∷ 0 ∷ 0 ∷ 0 ∷ 9 ∷ 0 ∷ 0 ∷ 0
    ∷ 13 ∷ 0 ∷ 8 ∷ 0 ∷ 0 ∷ 0 ∷ 0 ∷ 0 ∷ 0
    ∷ []

abbrev pub overlay_text : List ℕ
overlay_text =
    -- m0 0
    (109 ∷ 48 ∷ 32 ∷ 48 ∷ 10 ∷ [])
    -- m1 0
    ++ (109 ∷ 49 ∷ 32 ∷ 48 ∷ 10 ∷ [])
    -- 0 0 - - 0
    ++ plain_line 48 48
    -- 1 0 - - -
    ++ plain_line 49 45
    -- 2 0 F3.0 I3.0 9
    ++ (50 ∷ 32 ∷ 48 ∷ 32 ∷ 70 ∷ 51 ∷ 46 ∷ 48 ∷ 32 ∷ 73 ∷ 51 ∷ 46 ∷ 48 ∷ 32 ∷ 57 ∷ 10 ∷ [])
    -- end 1 1
    ++ 101 ∷ 110 ∷ 100 ∷ 32 ∷ 49 ∷ 32 ∷ 49 ∷ 10 ∷ []
