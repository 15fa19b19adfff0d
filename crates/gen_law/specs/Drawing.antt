-- The lines of a lane, drawn one after another from a number.
use Rattle.std.specs.Prelude.{ℕ, zero, suc, ◌+◌, ◌*◌, ◌/◌, ◌%◌, ◌^◌, ◌==◌, nat_lt, if◌then◌else◌, List, [], ◌∷◌, ◌++◌, codes, decimal}
use Rattle.key_tuple.specs.Order.{FieldList}
use Rattle.map_history.specs.Map.{Put, Set, Del}
use Rattle.map_history.specs.Operation.{Ask, Get, Make}
use Rattle.map_history.specs.LegalReport.{Line}

-- the state that comes after a state
abbrev pub next_state : ℕ → ℕ
next_state state = (state * 6364136223846793005 + 1442695040888963407) % 2 ^ 64

-- the state after so many steps
abbrev pub state_after : (start steps : ℕ) → ℕ
state_after start zero = start
state_after start (suc steps) = next_state (state_after start steps)

-- the number that is drawn from a state: its upper 31 bits
abbrev pub number_drawn : ℕ → ℕ
number_drawn state = state / 2 ^ 33

-- the last decimal digit of a number
abbrev pub digit : ℕ → ℕ
digit n = 48 + n % 10

-- the last two digits of a number
abbrev pub two_digits : ℕ → List ℕ
two_digits n = digit (n / 10) ∷ digit n ∷ []

-- the last four digits of a number
abbrev pub four_digits : ℕ → List ℕ
four_digits n = digit (n / 1000) ∷ digit (n / 100) ∷ digit (n / 10) ∷ digit n ∷ []

-- the key that a lane draws: `k`, the lane, `-`, and one of a thousand numbers
abbrev pub key_drawn : (lane drawn : ℕ) → List ℕ
key_drawn lane drawn = codes "k" ++ two_digits lane ++ codes "-" ++ four_digits (drawn / 8 % 1000)

-- the value that a line writes: `v` and the line's number
abbrev pub value_written : ℕ → List ℕ
value_written line = codes "v" ++ decimal line

-- of eight numbers three ask for a put, one for a set, one for a del, and three for a get
abbrev pub ask_by : (choice : ℕ) → FieldList → List ℕ → Ask
ask_by choice key value =
    if nat_lt choice 3 then Make (Put key value)
    else if choice == 3 then Make (Set key value)
    else if choice == 4 then Make (Del key)
    else Get key

-- what a line of a lane asks for that draws a number
abbrev pub ask_drawn : (lane line drawn : ℕ) → Ask
ask_drawn lane line drawn =
    ask_by (drawn % 8) (key_drawn lane drawn ∷ []) (value_written line)

-- the line of a lane that a state gives: all ask the first index
abbrev pub line_drawn : (lane line state : ℕ) → Line
line_drawn lane line state = record {
  line = line;
  op = record { index = 0; ask = ask_drawn lane line (number_drawn state) };
}

-- the first lines of a lane, so many: its states begin with the number and the lane's own together
abbrev pub lane_lines : (number lane lines : ℕ) → List Line
lane_lines number lane zero = []
lane_lines number lane (suc lines) = lane_lines number lane lines
    ++ line_drawn lane (suc lines) (state_after (number + lane) (suc lines)) ∷ []
