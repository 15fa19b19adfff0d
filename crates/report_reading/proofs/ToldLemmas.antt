-- What the words of a line tell, as their parts pass.
use Rattle.std.proofs.Common.{◌≡◌, ℕ, ◌^◌, ◌&&◌, Bool, true, false, cond, ltb, List, [], ◌∷◌, Option, Some, None, refl, sym, ap, ◌∙◌}
use Rattle.std.specs.Prelude.{codes}
use Rattle.std.specs.Str.{bytes_eq}
use Rattle.key_tuple.specs.Order.{FieldList}
use Rattle.map_history.specs.Map.{Pair, MapChange, Put, Set}
use Rattle.map_history.specs.Report.{ChangeLine}
use Rattle.report_forms.specs.Answers.{columns_told, point_told}
use Rattle.report_forms.specs.Entries.{change_told, entry_told, is_entry, with_value}
use Rattle.report_forms.specs.Limits.{is_key, is_value, is_row, changes_row}
use Rattle.report_forms.specs.Scans.{PieceHead, PieceTurn, piece_head_told, is_piece_head, has_turn, stands_later}
use Rattle.script.specs.Grammar.{both, decimal_from, field_of, tuple_of}
use Rattle.report_reading.specs.Numbers.{small_number}
use Rattle.report_reading.specs.Pieces.{has_small_numbers, takes_turn}
use Rattle.report_reading.specs.declared.misread.Misread.{Misread}
use Rattle.report_reading.specs.declared.misread.Misread.TheVariants as misread
use Rattle.report_reading.specs.Reads.{passing, TellsNone}
use Rattle.report_reading.specs.Rows.{row_in}
use Rattle.report_reading.proofs.WordLemmas.{two_are}

-- a change that writes a row is told as the row is
module _ (change : FieldList → List ℕ → MapChange) (count : ℕ) (fits : (k : FieldList) (v : List ℕ) → changes_row count (change k v) ≡ (is_key count k && is_value v)) where
  writes_row : (o : Option FieldList) (p : Option (List ℕ)) (row : Pair)
      → passing (is_row count) (elim o [ None ↦ None | Some k ↦ elim p [ None ↦ None | Some v ↦ Some (record { key = k; value = v }) ] ]) ≡ Some row
      → passing (changes_row count) (with_value change o p) ≡ Some (change row.key row.value)
  writes_row None p row h = absurd cc
  writes_row (Some k) None row h = absurd cc
  writes_row (Some k) (Some v) row h = ap (λ (t : Bool). cond t (Some (change k v)) None) (fits k v) ∙ go (is_key count k && is_value v) h
    where
      go : (t : Bool) → ◌≡◌ {A = Option Pair} (cond t (Some (record { key = k; value = v })) None) (Some row) → cond t (Some (change k v)) None ≡ Some (change row.key row.value)
      go true e =
          let is : record { key = k; value = v } ≡ row = cc in
          ap (λ (r : Pair). Some (change r.key r.value)) is
      go false e = absurd cc

-- a change of a put
pub put_told : (count : ℕ) (verb : List ℕ) (parts : List (List ℕ)) (row : Pair) → bytes_eq verb (codes "put") ≡ true → passing (is_row count) (row_in parts) ≡ Some row
    → passing (changes_row count) (change_told (verb ∷ parts)) ≡ Some (Put row.key row.value)
put_told count verb [] row is h = absurd cc
put_told count verb (k ∷ []) row is h = absurd cc
put_told count verb (k ∷ v ∷ []) row is h = rw is (writes_row Put count (λ a b. refl) (tuple_of k) (field_of v) row h)
put_told count verb (k ∷ v ∷ w ∷ parts) row is h = absurd cc

-- and of a set
pub set_told : (count : ℕ) (verb : List ℕ) (parts : List (List ℕ)) (row : Pair) → bytes_eq verb (codes "put") ≡ false → bytes_eq verb (codes "set") ≡ true → passing (is_row count) (row_in parts) ≡ Some row
    → passing (changes_row count) (change_told (verb ∷ parts)) ≡ Some (Set row.key row.value)
set_told count verb [] row other is h = absurd cc
set_told count verb (k ∷ []) row other is h = absurd cc
set_told count verb (k ∷ v ∷ []) row other is h = rw (other, is) (writes_row Set count (λ a b. refl) (tuple_of k) (field_of v) row h)
set_told count verb (k ∷ v ∷ w ∷ parts) row other is h = absurd cc

-- the entry of a lane, a line and a change, where these are there
abbrev pub entry_made : Option ℕ → Option ℕ → Option MapChange → Option ChangeLine
entry_made None line change = None
entry_made (Some a) None change = None
entry_made (Some a) (Some b) None = None
entry_made (Some a) (Some b) (Some c) = Some (record { lane = a; line = b; change = c })

pub entry_of : (count : ℕ) (number lane line : List ℕ) (words : List (List ℕ)) → passing (is_entry count) (entry_told (number ∷ lane ∷ line ∷ words))
    ≡ entry_made (small_number (decimal_from 0 lane)) (small_number (decimal_from 0 line)) (passing (changes_row count) (change_told words))
entry_of count number lane line words = go (change_told words)
  where
    a : ℕ
    a = decimal_from 0 lane

    b : ℕ
    b = decimal_from 0 line

    test : (c : MapChange) (x y z : Bool) → ◌≡◌ {A = Option ChangeLine} (cond ((x && y) && z) (Some (record { lane = a; line = b; change = c })) None) (entry_made (cond x (Some a) None) (cond y (Some b) None) (cond z (Some c) None))
    test c true true true = refl
    test c true true false = refl
    test c true false z = refl
    test c false y z = refl

    other : (x y : Bool) → ◌≡◌ {A = Option ChangeLine} None (entry_made (cond x (Some a) None) (cond y (Some b) None) None)
    other true true = refl
    other true false = refl
    other false y = refl

    go : (o : Option MapChange) → passing (is_entry count) (elim o [ None ↦ None | Some c ↦ Some (record { lane = a; line = b; change = c }) ]) ≡ entry_made (small_number a) (small_number b) (passing (changes_row count) o)
    go None = other (ltb a (2 ^ 64)) (ltb b (2 ^ 64))
    go (Some c) = test c (ltb a (2 ^ 64)) (ltb b (2 ^ 64)) (changes_row count c)

-- an entry without a change
pub no_change : (count : ℕ) (number lane line : List ℕ) (words : List (List ℕ)) (e : Misread) → TellsNone e (passing (changes_row count) (change_told words))
    → TellsNone e (passing (is_entry count) (entry_told (number ∷ lane ∷ line ∷ words)))
no_change count number lane line words misread.NoMemory h = tt
no_change count number lane line words misread.BadLine h = entry_of count number lane line words ∙ (ap (entry_made a b) h ∙ none a b)
  where
    a : Option ℕ
    a = small_number (decimal_from 0 lane)

    b : Option ℕ
    b = small_number (decimal_from 0 line)

    none : (x y : Option ℕ) → entry_made x y None ≡ None
    none None y = refl
    none (Some x) None = refl
    none (Some x) (Some y) = refl

-- three words, and those behind them
pub three_words : (ws ws1 ws2 ws3 : List (List ℕ)) (a b c : List ℕ) → ws ≡ a ∷ ws1 → ws1 ≡ b ∷ ws2 → ws2 ≡ c ∷ ws3 → ws ≡ a ∷ b ∷ c ∷ ws3
three_words ws ws1 ws2 ws3 a b c one two three = one ∙ ap (λ (r : List (List ℕ)). a ∷ r) (two ∙ ap (λ (r : List (List ℕ)). b ∷ r) three)

-- five words, the last two as a pair
pub five_words : (ws ws1 ws2 ws3 : List (List ℕ)) (a b c d e : List ℕ) → ws ≡ a ∷ ws1 → ws1 ≡ b ∷ ws2 → ws2 ≡ c ∷ ws3 → Some (d, e) ≡ both ws3 → ws ≡ a ∷ b ∷ c ∷ d ∷ e ∷ []
five_words ws ws1 ws2 ws3 a b c d e one two three last = one ∙ ap (λ (r : List (List ℕ)). a ∷ r) (two ∙ ap (λ (r : List (List ℕ)). b ∷ r) (three ∙ ap (λ (r : List (List ℕ)). c ∷ r) (two_are ws3 d e last)))

-- the line of a piece, where its numbers are there
abbrev pub head_made : Option ℕ → Option ℕ → List ℕ → List ℕ → Option PieceHead
head_made None count how note = None
head_made (Some a) None how note = None
head_made (Some a) (Some b) how note = Some (record { point = a; count = b; columns = columns_told how note })

pub head_of : (piece point count how note : List ℕ) → passing has_small_numbers (piece_head_told (piece ∷ point ∷ count ∷ how ∷ note ∷ []))
    ≡ head_made (small_number (point_told point)) (small_number (decimal_from 0 count)) how note
head_of piece point count how note = test (ltb a (2 ^ 64)) (ltb b (2 ^ 64))
  where
    a : ℕ
    a = point_told point

    b : ℕ
    b = decimal_from 0 count

    test : (x y : Bool) → ◌≡◌ {A = Option PieceHead} (cond (x && y) (Some (record { point = a; count = b; columns = columns_told how note })) None) (head_made (cond x (Some a) None) (cond y (Some b) None) how note)
    test true true = refl
    test true false = refl
    test false y = refl

-- a line of a piece passes in its turn
pub turn_taken : (turn : PieceTurn) (told o : Option PieceHead) → o ≡ passing has_small_numbers told → passing (is_piece_head turn) told ≡ passing (takes_turn turn) o
turn_taken turn told o is = go told ∙ ap (passing (takes_turn turn)) (sym is)
  where
    test : (h : PieceHead) (s t : Bool) → takes_turn turn h ≡ t → cond (s && t) (Some h) None ≡ passing (takes_turn turn) (cond s (Some h) None)
    test h true t e = ap (λ (b : Bool). cond b (Some h) None) (sym e)
    test h false t e = refl

    three : (a b c : Bool) → ((a && b) && c) ≡ (a && (b && c))
    three true b c = refl
    three false b c = refl

    go : (p : Option PieceHead) → passing (is_piece_head turn) p ≡ passing (takes_turn turn) (passing has_small_numbers p)
    go None = refl
    go (Some h) = ap (λ (b : Bool). cond b (Some h) None) (three (has_small_numbers h) (has_turn turn h.count) (stands_later turn.is_later h.columns)) ∙ test h (has_small_numbers h) (takes_turn turn h) refl
