-- Document 01, "The run sheet": the lines that are printed, as ASCII codes.
use Rattle.std.specs.Prelude.{cond, Option, Some, None, List, [], ◌∷◌, ◌++◌, ℕ, zero, suc, ◌+◌, ◌*◌, ◌/◌, ltb, get_or}
use Rattle.std.proofs.Math.Option as maybe
use Rattle.io.specs.Digits.{last_digits}
use Rattle.manager.specs.Answers as operation
use Rattle.manager.specs.Answers.{FrameOperation, Outcome, refused, accepted, number_of, first_operation, second_operation}
use Rattle.machine.specs.State.{Single, Exchange, no_words, word_out, page_out, page_in, part_in, exchange_of, Answer}

-- ---- characters

abbrev pub newline : ℕ
newline = 10

abbrev pub space : ℕ
space = 32

abbrev pub dash : ℕ
dash = 45

abbrev pub dot : ℕ
dot = 46

-- F, P, I and m
abbrev pub flush_letter : ℕ
flush_letter = 70

abbrev pub purge_letter : ℕ
purge_letter = 80

abbrev pub instruction_letter : ℕ
instruction_letter = 73

abbrev pub mapping_letter : ℕ
mapping_letter = 109

-- ---- the room of a line and of its parts

-- a number of 64 bits
abbrev pub number_bytes : ℕ
number_bytes = 20

-- a letter, a dot and two numbers
abbrev pub operation_bytes : ℕ
operation_bytes = 2 + 2 * number_bytes

-- a number, and two operations after a space
abbrev pub answer_bytes : ℕ
answer_bytes = number_bytes + 2 * (1 + operation_bytes)

-- no line has more bytes
abbrev pub line_bytes : ℕ
line_bytes = 160

-- ---- numbers

-- how many decimal digits n has, if it has no more than 1 + limit
unfoldable pub places : ℕ → ℕ → ℕ
places zero n = 1
places (suc limit) n = cond (ltb n 10) 1 (suc (places limit (n / 10)))

-- a number below 10 ^ 20
unfoldable pub decimal : ℕ → List ℕ
unfolding places
decimal n = last_digits 10 (places 19 n) n

-- ---- what is told of an answer

-- F, P or, of a purge in the instruction cache (request N8), I, then frame, a dot, colour; or a dash
unfoldable pub operation_text : FrameOperation → List ℕ
unfolding decimal
operation_text operation.none = dash ∷ []
operation_text (operation.flush f c) = flush_letter ∷ (decimal f ++ (dot ∷ decimal c))
operation_text (operation.purge f c) = purge_letter ∷ (decimal f ++ (dot ∷ decimal c))
operation_text (operation.purge_instructions f c) = instruction_letter ∷ (decimal f ++ (dot ∷ decimal c))

unfoldable pub word_text : Option ℕ → List ℕ
unfolding decimal
word_text None = dash ∷ []
word_text (Some word) = decimal word

-- the first word of what an accepted device read gave, else none
abbrev pub first_word : Outcome → List ℕ → Option ℕ
first_word (refused n) buffer = None
first_word (accepted f ops) buffer = Some (get_or buffer 0 0)

-- the word of the machine's answer
abbrev pub shown_word : maybe.Option ℕ → Option ℕ
shown_word maybe.none = None
shown_word (maybe.some word) = Some word

-- the word read or fetched, for a device read its first; the word that a device takes
abbrev pub word_given : Exchange → Answer → Option ℕ
word_given no_words a = None
word_given word_out a = shown_word a.word
word_given (page_out buffer) a = first_word a.outcome a.buffer
word_given (page_in buffer) a = None
word_given (part_in number buffer) a = None

abbrev pub word_of : Single → Answer → Option ℕ
word_of call = word_given (exchange_of call)

-- ---- the lines

-- `mk R`
unfoldable pub mapping_line : ℕ → ℕ → List ℕ
unfolding decimal
mapping_line k number = mapping_letter ∷ (decimal k ++ (space ∷ (decimal number ++ (newline ∷ []))))

abbrev pub mapping_line_of : ℕ → Single → Answer → List ℕ
mapping_line_of k call a = mapping_line k (number_of a.outcome)

-- `R A B`
unfoldable pub answer_text : Outcome → List ℕ
answer_text o = decimal (number_of o) ++ (space ∷ (operation_text (first_operation o) ++ (space ∷ operation_text (second_operation o))))

-- `k R A B V`
unfoldable pub step_line : ℕ → Outcome → Option ℕ → List ℕ
step_line k o word = decimal k ++ (space ∷ (answer_text o ++ (space ∷ (word_text word ++ (newline ∷ [])))))

abbrev pub step_line_of : ℕ → Single → Answer → List ℕ
step_line_of k call a = step_line k a.outcome (word_of call a)

-- `end F P`
unfoldable pub end_line : ℕ → ℕ → List ℕ
unfolding decimal
end_line flushes purges = 101 ∷ 110 ∷ 100 ∷ space ∷ (decimal flushes ++ (space ∷ (decimal purges ++ (newline ∷ []))))

-- `refused 11`
abbrev pub refused_line : List ℕ
refused_line = 114 ∷ 101 ∷ 102 ∷ 117 ∷ 115 ∷ 101 ∷ 100 ∷ space ∷ 49 ∷ 49 ∷ newline ∷ []
