-- Columns that are counted one after another.
use Rattle.std.proofs.Common.{◌≡◌, ℕ, zero, suc, ◌+◌, ◌<◌, Bool, true, false, cond, eqb, List, [], ◌∷◌, ◌++◌, length, get_or, set, take, map, Some, refl, sym, ap, ◌∙◌, subst, append_assoc, append-nil, add-one, Vec, arith}
use Rattle.std.specs.declared.alloc.Global.{Global}
use Rattle.std.proofs.lemmas.List.{take_more, map_push}
use Rattle.std.specs.List.{flat_map, slice_get, zip}
use Rattle.column_counts.specs.Counted.{AreCounts}
use Rattle.column_counts.specs.Sums.{sum_of}
use Rattle.column_counts.proofs.SumLemmas.{counts_as, one_more}
use Rattle.map_history.specs.declared.counts.Counts.{Counts}
use Rattle.map_history.specs.declared.line.Line.{Line}
use Rattle.map_history.specs.LegalReport as asked
use Rattle.map_history.specs.LegalReport.{columns_in, columns_of}
use Rattle.map_history.specs.Lines.{line_text, line_texts}
use Rattle.map_history.specs.Report.{Columns, ScanPiece, AnswerLine}
use Rattle.map_history.specs.Statistics.{counts_of}
use Rattle.report_reading.specs.declared.pieces.ReadPiece.{ReadPiece}
use Rattle.report_reading.specs.Counts.{CountsMore, piece_columns}
use Rattle.report_reading.specs.Pieces.{piece_seen}
use Rattle.report_reading.specs.declared.told.ReadLine.{ReadLine}
use Rattle.report_reading.specs.Told.{told_seen, line_seen, lines_seen, lane_asked}

there : {A : Type 0} (xs : List A) (i : ℕ) (d : A) → i < length xs → slice_get xs i ≡ Some (get_or xs i d)
there [] i d low = absurd (omega (arith, low))
there (y ∷ xs) zero d low = refl
there (y ∷ xs) (suc i) d low = there xs i d (omega (arith, low))

-- one line's columns more
pub counts_one : (old new : List Counts) (index : ℕ) (d : Counts) (columns : Columns) → index < length old → new ≡ set old index (sum_of (get_or old index d) (counts_of (columns ∷ [])))
    → CountsMore old new (λ i. cond (eqb index i) (columns ∷ []) [])
counts_one old new index d columns low new_is indexes before counted =
    subst (AreCounts indexes (λ i. before i ++ cond (eqb index i) (columns ∷ []) [])) (sym new_is) (one_more indexes index before old (get_or old index d) columns counted (there old index d low))

-- none more
pub counts_none : (old : List Counts) (columns : ℕ → List Columns) → ((i : ℕ) → columns i ≡ []) → CountsMore old old columns
counts_none old columns none indexes before counted =
    counts_as indexes before (λ i. before i ++ columns i) old (λ i. sym (append-nil (before i)) ∙ ap (λ (cs : List Columns). before i ++ cs) (sym (none i))) counted

-- some and then others
pub counts_both : (old mid new : List Counts) (first second both : ℕ → List Columns) → ((i : ℕ) → both i ≡ first i ++ second i) → CountsMore old mid first → CountsMore mid new second → CountsMore old new both
counts_both old mid new first second both are one two indexes before counted =
    counts_as indexes (λ i. (before i ++ first i) ++ second i) (λ i. before i ++ both i) new (λ i. append_assoc (before i) (first i) (second i) ∙ ap (λ (cs : List Columns). before i ++ cs) (sym (are i)))
    (two indexes (λ i. before i ++ first i) (one indexes before counted))

-- the same columns
pub counts_same : (old new : List Counts) (f g : ℕ → List Columns) → ((i : ℕ) → f i ≡ g i) → CountsMore old new f → CountsMore old new g
counts_same old new f g same more indexes before counted =
    counts_as indexes (λ i. before i ++ f i) (λ i. before i ++ g i) new (λ i. ap (λ (cs : List Columns). before i ++ cs) (same i)) (more indexes before counted)

-- one piece more is counted
pub piece_taken : (b : Bool) (pieces : List ReadPiece) (i : ℕ) (d : ReadPiece) → i < length pieces
    → cond b (map piece_columns (take (i + 1) pieces)) [] ≡ cond b (map piece_columns (take i pieces)) [] ++ cond b (piece_columns (get_or pieces i d) ∷ []) []
piece_taken false pieces i d low = refl
piece_taken true pieces i d low = ap (map piece_columns) (take_more pieces i d low) ∙ map_push piece_columns (take i pieces) (get_or pieces i d)

-- pieces have the columns that a report says
pub piece_columns_are : (pieces : List ReadPiece) → map (λ (p : ScanPiece). p.columns) (map piece_seen pieces) ≡ map piece_columns pieces
piece_columns_are [] = refl
piece_columns_are (p ∷ pieces) = ap (λ (cs : List Columns). piece_columns p ∷ cs) (piece_columns_are pieces)

take_none : {Z : Type 0} (n : ℕ) → take {A = Z} n [] ≡ []
take_none zero = refl
take_none (suc n) = refl

pair_more : {X Y A B : Type 0} (f : X → A) (g : Y → B) (xs : List X) (ys : List Y) (i : ℕ) (dx : X) (dy : Y) → i < length xs → i < length ys
    → take (suc i) (zip (map f xs) (map g ys)) ≡ take i (zip (map f xs) (map g ys)) ++ (f (get_or xs i dx), g (get_or ys i dy)) ∷ []
pair_more f g [] ys i dx dy low short = absurd (omega (arith, low))
pair_more f g (v ∷ xs) [] i dx dy low short = absurd (omega (arith, short))
pair_more f g (v ∷ xs) (w ∷ ys) zero dx dy low short = refl
pair_more f g (v ∷ xs) (w ∷ ys) (suc i) dx dy low short = ap (λ zs. (f v, g w) ∷ zs) (pair_more f g xs ys i dx dy (omega (arith, low)) (omega (arith, short)))

-- two lists side by side, up to a place
pub pair_taken : {X Y A B : Type 0} (f : X → A) (g : Y → B) (xs : List X) (ys : List Y) (i : ℕ) (dx : X) (dy : Y) → i < length xs → i < length ys
    → take (i + 1) (zip (map f xs) (map g ys)) ≡ take i (zip (map f xs) (map g ys)) ++ (f (get_or xs i dx), g (get_or ys i dy)) ∷ []
pair_taken f g xs ys i dx dy low short = ap (λ (n : ℕ). take n (zip (map f xs) (map g ys))) (add-one i) ∙ pair_more f g xs ys i dx dy low short

-- all of them
pub pairs_taken : {X Y A B : Type 0} (f : X → A) (g : Y → B) (xs : List X) (ys : List Y) (i : ℕ) → (i < length xs → i < length ys → ⊥) → take i (zip (map f xs) (map g ys)) ≡ zip (map f xs) (map g ys)
pairs_taken f g [] ys i h = take_none i
pairs_taken f g (v ∷ xs) [] i h = take_none i
pairs_taken f g (v ∷ xs) (w ∷ ys) zero h = absurd (h (omega arith) (omega arith))
pairs_taken f g (v ∷ xs) (w ∷ ys) (suc i) h = ap (λ zs. (f v, g w) ∷ zs) (pairs_taken f g xs ys i (λ a b. h (omega (arith, a)) (omega (arith, b))))

-- what is made of one more
pub flat_more : {X Y : Type 0} (f : X → List Y) (xs : List X) (x : X) → flat_map f (xs ++ x ∷ []) ≡ flat_map f xs ++ f x
flat_more f [] x = append-nil (f x)
flat_more f (y ∷ xs) x = ap (λ ys. f y ++ ys) (flat_more f xs x) ∙ sym (append_assoc (f y) (flat_map f xs) (f x))

-- one answer more is counted
pub line_counted : (old mid new : List Counts) (lines : List Line) (told : List ReadLine) (place index : ℕ) (dx : Line) (dy : ReadLine) → place < length lines → place < length told
    → index ≡ (line_text (get_or lines place dx)).op.index → CountsMore old mid (λ i. columns_in i (take place (zip (line_texts lines) (map line_seen told))))
    → CountsMore mid new (λ i. cond (eqb index i) (columns_of (told_seen (get_or told place dy).told)) [])
    → CountsMore old new (λ i. columns_in i (take (place + 1) (zip (line_texts lines) (map line_seen told))))
line_counted old mid new lines told place index dx dy low short is before more =
    counts_both old mid new (λ i. columns_in i (take place (zip (line_texts lines) (map line_seen told)))) (λ i. cond (eqb index i) (columns_of (told_seen (get_or told place dy).told)) [])
    (λ i. columns_in i (take (place + 1) (zip (line_texts lines) (map line_seen told))))
    (λ i. ap (columns_in i) (pair_taken line_text line_seen lines told place dx dy low short)
    ∙ (flat_more (λ (x : asked.Line × AnswerLine). cond (eqb x.0.op.index i) (columns_of x.1.answer) []) (take place (zip (line_texts lines) (map line_seen told))) (line_text (get_or lines place dx), line_seen (get_or told place dy))
    ∙ ap (λ (n : ℕ). columns_in i (take place (zip (line_texts lines) (map line_seen told))) ++ cond (eqb n i) (columns_of (told_seen (get_or told place dy).told)) []) (sym is))) before more

-- one lane more is counted
pub lane_counted : (indexes : ℕ) (mid new : List Counts) (lanes : List (Vec Line Global)) (told : List (Vec ReadLine Global)) (lane : ℕ) (dx : Vec Line Global) (dy : Vec ReadLine Global) → lane < length lanes → lane < length told
    → AreCounts indexes (λ i. flat_map (λ (x : List asked.Line × List AnswerLine). columns_in i (zip x.0 x.1)) (take lane (zip (map lane_asked lanes) (map lines_seen told)))) mid
    → CountsMore mid new (λ i. columns_in i (zip (lane_asked (get_or lanes lane dx)) (lines_seen (get_or told lane dy))))
    → AreCounts indexes (λ i. flat_map (λ (x : List asked.Line × List AnswerLine). columns_in i (zip x.0 x.1)) (take (lane + 1) (zip (map lane_asked lanes) (map lines_seen told)))) new
lane_counted indexes mid new lanes told lane dx dy low short before more =
    counts_as indexes _ _ new (λ i. sym (ap (flat_map (λ (x : List asked.Line × List AnswerLine). columns_in i (zip x.0 x.1))) (pair_taken lane_asked lines_seen lanes told lane dx dy low short)
    ∙ flat_more (λ (x : List asked.Line × List AnswerLine). columns_in i (zip x.0 x.1)) (take lane (zip (map lane_asked lanes) (map lines_seen told))) (lane_asked (get_or lanes lane dx), lines_seen (get_or told lane dy))))
    (more indexes _ before)
