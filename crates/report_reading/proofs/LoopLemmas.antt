-- What was read so far, and what the lines that are left are read to, are what all lines are.
use Rattle.std.proofs.Common.{◌≡◌, ℕ, suc, ◌+◌, ◌-◌, ◌<◌, ◌≤◌, Bool, true, List, [], ◌∷◌, ◌++◌, length, get_or, drop, map, Vec, Ok, Err, refl, sym, ap, ◌∙◌, append_assoc, append-nil, arith}
use Rattle.std.specs.List.{zip, enumerate_from}
use Rattle.std.specs.String.{string_bytes}
use Rattle.std.specs.declared.string.String.{String}
use Rattle.std.specs.declared.alloc.Global.{Global}
use Rattle.std.proofs.lemmas.List.{drop_more}
use Rattle.map_history.specs.declared.line.Line.{Line}
use Rattle.map_history.specs.Lines.{line_texts}
use Rattle.map_history.specs.Report.{ScanPiece}
use Rattle.line_forms.specs.LineForms.{Lines, Reading, read_second, read_as}
use Rattle.report_forms.specs.Lists.{in_front, read_each, numbers_from}
use Rattle.report_forms.specs.Scans.{read_piece, read_pieces}
use Rattle.report_reading.specs.declared.misread.Misread.{Misread}
use Rattle.report_reading.specs.declared.misread.Misread.TheVariants as misread
use Rattle.report_reading.specs.Reads.{Stops}
use Rattle.report_reading.specs.Told.{lane_asked}

-- things in front of those that are read
abbrev pub joined : {A : Type 0} → List A → Reading (List A) → Reading (List A)
joined front read = read_as (λ things. front ++ things) read

module _ {A : Type 0} where
  -- none in front
  pub joined_none : (r : Reading (List A)) → joined [] r ≡ r
  joined_none (Ok x) = refl
  joined_none (Err rest) = refl

  -- one more
  pub one_more : (front : List A) (r : Reading A) (next : A → Lines → Reading (List A)) (a : A) (rest : Lines) → r ≡ Ok (a, rest) → joined front (read_as in_front (read_second next r)) ≡ joined (front ++ a ∷ []) (next a rest)
  one_more front r next a rest is = ap (λ (s : Reading A). joined front (read_as in_front (read_second next s))) is ∙ go (next a rest)
    where
      go : (r : Reading (List A)) → joined front (read_as in_front (elim r [ Err t ↦ Err t | Ok y ↦ Ok ((a, y.0), y.1) ])) ≡ joined (front ++ a ∷ []) r
      go (Err t) = refl
      go (Ok y) = ap (λ (xs : List A). Ok (xs, y.1)) (sym (append_assoc front (a ∷ []) y.0))

  -- none more
  pub one_stops : (front : List A) (r : Reading A) (next : A → Lines → Reading (List A)) (rest : Lines) → r ≡ Err rest → joined front (read_as in_front (read_second next r)) ≡ Err rest
  one_stops front r next rest is = ap (λ (s : Reading A). joined front (read_as in_front (read_second next s))) is

module _ {X A : Type 0} (read : X → Lines → Reading A) where
  pub each_goes_on : (front : List A) (all xs : List X) (x : X) (text rest : Lines) (a : A) (whole : Reading (List A)) → all ≡ x ∷ xs → read x text ≡ Ok (a, rest)
      → joined front (read_each read all text) ≡ whole → joined (front ++ a ∷ []) (read_each read xs rest) ≡ whole
  each_goes_on front all xs x text rest a whole are is so_far =
      sym (ap (λ (ys : List X). joined front (read_each read ys text)) are ∙ one_more front (read x text) (λ first. read_each read xs) a rest is) ∙ so_far

  pub each_stops : (front : List A) (all xs : List X) (x : X) (text left : Lines) (e : Misread) (whole : Reading (List A)) → all ≡ x ∷ xs → Stops e left (read x text)
      → joined front (read_each read all text) ≡ whole → Stops e left whole
  each_stops front all xs x text left misread.NoMemory whole are is so_far = tt
  each_stops front all xs x text left misread.BadLine whole are is so_far =
      sym so_far ∙ (ap (λ (ys : List X). joined front (read_each read ys text)) are ∙ one_stops front (read x text) (λ first. read_each read xs) left is)

  pub each_done : (front : List A) (all : List X) (text : Lines) (whole : Reading (List A)) → all ≡ [] → joined front (read_each read all text) ≡ whole → whole ≡ Ok (front, text)
  each_done front all text whole are so_far = sym so_far ∙ (ap (λ (ys : List X). joined front (read_each read ys text)) are ∙ ap (λ (xs : List A). Ok (xs, text)) (append-nil front))

-- the numbers that are left
pub number_more : (number count done : ℕ) → done < count → numbers_from number (count - done) ≡ number ∷ numbers_from (number + 1) (count - (done + 1))
number_more number count done low = let is : count - done ≡ suc (count - (done + 1)) = omega (arith, low) in ap (numbers_from number) is

pub numbers_none : (number count done : ℕ) → count ≤ done → numbers_from number (count - done) ≡ []
numbers_none number count done high = let is : count - done ≡ 0 = omega (arith, high) in ap (numbers_from number) is

-- the pieces that are left
module _ (fields : ℕ) where
  pub pieces_go_on : (front : List ScanPiece) (later : Bool) (left count done : ℕ) (text rest : Lines) (piece : ScanPiece) (whole : Reading (List ScanPiece)) → done < count
      → read_piece fields (record { is_later = later; behind = count - (done + 1); left = left }) text ≡ Ok (piece, rest)
      → joined front (read_pieces fields later left (count - done) text) ≡ whole → joined (front ++ piece ∷ []) (read_pieces fields true (left - length piece.rows) (count - (done + 1)) rest) ≡ whole
  pieces_go_on front later left count done text rest piece whole low is so_far =
      let n = count - (done + 1) in
      let more : count - done ≡ suc n = omega (arith, low) in
      sym (ap (λ (m : ℕ). joined front (read_pieces fields later left m text)) more
      ∙ one_more front (read_piece fields (record { is_later = later; behind = n; left = left }) text) (λ (p : ScanPiece). read_pieces fields true (left - length p.rows) n) piece rest is) ∙ so_far

  pub pieces_stop : (front : List ScanPiece) (later : Bool) (left count done : ℕ) (text rest : Lines) (e : Misread) (whole : Reading (List ScanPiece)) → done < count
      → Stops e rest (read_piece fields (record { is_later = later; behind = count - (done + 1); left = left }) text)
      → joined front (read_pieces fields later left (count - done) text) ≡ whole → Stops e rest whole
  pieces_stop front later left count done text rest misread.NoMemory whole low is so_far = tt
  pieces_stop front later left count done text rest misread.BadLine whole low is so_far =
      let n = count - (done + 1) in
      let more : count - done ≡ suc n = omega (arith, low) in
      sym so_far ∙ (ap (λ (m : ℕ). joined front (read_pieces fields later left m text)) more
      ∙ one_stops front (read_piece fields (record { is_later = later; behind = n; left = left }) text) (λ (p : ScanPiece). read_pieces fields true (left - length p.rows) n) rest is)

  pub pieces_done : (front : List ScanPiece) (later : Bool) (left count done : ℕ) (text : Lines) (whole : Reading (List ScanPiece)) → count ≤ done
      → joined front (read_pieces fields later left (count - done) text) ≡ whole → whole ≡ Ok (front, text)
  pieces_done front later left count done text whole high so_far =
      let none : count - done ≡ 0 = omega (arith, high) in
      sym so_far ∙ (ap (λ (m : ℕ). joined front (read_pieces fields later left m text)) none ∙ ap (λ (xs : List ScanPiece). Ok (xs, text)) (append-nil front))

-- what is left behind a place
pub item_next : {X : Type 0} (xs : List X) (i : ℕ) (x : X) → i < length xs → x ≡ get_or xs i x → drop i xs ≡ x ∷ drop (i + 1) xs
item_next xs i x low is = drop_more xs i x low ∙ ap (λ y. y ∷ drop (i + 1) xs) (sym is)

-- names and numbers of fields that are left
pub part_next : (names : List (String Global)) (fields : List ℕ) (i : ℕ) (string : String Global) (name : List ℕ) → i < length names → length fields ≡ length names → string ≡ get_or names i string → name ≡ string_bytes string
    → zip (map string_bytes (drop i names)) (drop i fields) ≡ (name, get_or fields i 0) ∷ zip (map string_bytes (drop (i + 1) names)) (drop (i + 1) fields)
part_next names fields i string name low paired is same =
    let first = item_next names i string low is in
    let second = drop_more fields i 0 (omega (arith, low, paired)) in
    ap (λ (ns : List (String Global)). zip (map string_bytes ns) (drop i fields)) first
    ∙ (ap (λ (fs : List ℕ). zip (string_bytes string ∷ map string_bytes (drop (i + 1) names)) fs) second
    ∙ ap (λ (n : List ℕ). (n, get_or fields i 0) ∷ zip (map string_bytes (drop (i + 1) names)) (drop (i + 1) fields)) (sym same))

-- lanes that are left
pub lane_next : (lanes : List (Vec Line Global)) (i : ℕ) (lane : Vec Line Global) (lines : List Line) → i < length lanes → lane ≡ get_or lanes i lane → lines ≡ lane.items
    → enumerate_from i (map lane_asked (drop i lanes)) ≡ (i, line_texts lines) ∷ enumerate_from (i + 1) (map lane_asked (drop (i + 1) lanes))
lane_next lanes i lane lines low is same =
    ap (λ (ls : List (Vec Line Global)). enumerate_from i (map lane_asked ls)) (item_next lanes i lane low is)
    ∙ ap (λ (ls : List Line). (i, line_texts ls) ∷ enumerate_from (i + 1) (map lane_asked (drop (i + 1) lanes))) (sym same)
