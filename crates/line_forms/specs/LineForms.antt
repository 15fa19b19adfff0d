-- What is read line by line: how it is written, how it is read, and where reading stops.
use Rattle.std.specs.Prelude.{ℕ, ◌≡◌, Option, Some, None, List, [], ◌∷◌, ◌++◌, Result, Ok, Err}

-- some lines, each a list of bytes
abbrev pub Lines : Type 0
Lines = List (List ℕ)

-- what is read and the lines behind it, or the lines from the first one on that can't stand there
abbrev pub Reading : Type 0 → Type 0
Reading A = Result (A × Lines) Lines

-- reading stops behind a front of the lines, with which something begins that fits, but nothing that
-- goes on with the next line
pub record StopsAt {A : Type 0} (Fits : A → Type 0) (lines : A → Lines)
    (text rest : Lines) : Type 0 where
  pub front : Lines
  pub split : text ≡ front ++ rest
  pub one : A
  pub fits : Fits one
  pub more : Lines
  pub begun : lines one ≡ front ++ more
  pub none : (x : A) (line : List ℕ) (behind later : Lines) → Fits x → rest ≡ line ∷ behind
      → lines x ≡ front ++ line ∷ later → ⊥

-- what fits is written in these lines, and read so: it is read again whatever follows, what is read
-- fits and was written so, and reading stops at the first line with which nothing that fits goes on
pub record IsLineForm {A : Type 0} (Fits : A → Type 0) (lines : A → Lines)
    (read : Lines → Reading A) : Type 0 where
  pub some : A
  pub some_fits : Fits some
  pub again : (x : A) (rest : Lines) → Fits x → read (lines x ++ rest) ≡ Ok (x, rest)
  pub fits : (text rest : Lines) (x : A) → read text ≡ Ok (x, rest) → Fits x
  pub written : (text rest : Lines) (x : A) → read text ≡ Ok (x, rest) → text ≡ lines x ++ rest
  pub stops : (text rest : Lines) → read text ≡ Err rest → StopsAt Fits lines text rest

-- the reading of one line
abbrev pub read_line : {A : Type 0} → (List ℕ → Option A) → Lines → Reading A
read_line read [] = Err []
read_line read (line ∷ rest) =
    elim (read line) [ None ↦ Err (line ∷ rest) | Some x ↦ Ok (x, rest) ]

-- what is written in one line
abbrev pub in_line : {A : Type 0} → (A → List ℕ) → A → Lines
in_line text x = text x ∷ []

-- something, and what was read behind it
abbrev pub with_first : {A B : Type 0} → A → Reading B → Reading (A × B)
with_first x (Err rest) = Err rest
with_first x (Ok y) = Ok ((x, y.0), y.1)

-- something that was read, and then another, which may hang on it
abbrev pub read_second : {A B : Type 0} → (A → Lines → Reading B) → Reading A → Reading (A × B)
read_second read (Err rest) = Err rest
read_second read (Ok x) = with_first x.0 (read x.0 x.1)

-- the reading of one thing and then another
abbrev pub read_both : {A B : Type 0} → (Lines → Reading A) → (A → Lines → Reading B) → Lines
    → Reading (A × B)
read_both first second text = read_second second (first text)

-- the lines of both
abbrev pub both_lines : {A B : Type 0} → (A → Lines) → (A → B → Lines) → A × B → Lines
both_lines first second x = first x.0 ++ second x.0 x.1

-- both fit
abbrev pub both_fit : {A B : Type 0} → (A → Type 0) → (A → B → Type 0) → A × B → Type 0
both_fit First Second x = First x.0 × Second x.0 x.1

-- what is read, seen as something else
abbrev pub read_as : {A B : Type 0} → (A → B) → Reading A → Reading B
read_as see (Err rest) = Err rest
read_as see (Ok x) = Ok (see x.0, x.1)

-- what is read, where no line is left behind it
abbrev pub read_whole : {A : Type 0} → Reading A → Result A Lines
read_whole (Err rest) = Err rest
read_whole (Ok x) = elim x.1 [ [] ↦ Ok x.0 | line ∷ rest ↦ Err (line ∷ rest) ]
