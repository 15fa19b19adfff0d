-- What the words of an answer tell, as their parts pass.
use Rattle.std.proofs.Common.{◌≡◌, ℕ, ◌^◌, ◌&&◌, Bool, true, false, cond, ltb, List, [], ◌∷◌, Option, Some, None, refl, sym, ap, ◌∙◌}
use Rattle.std.specs.Prelude.{codes, option_map}
use Rattle.std.specs.Str.{bytes_eq}
use Rattle.key_tuple.specs.Order.{FieldList}
use Rattle.map_history.specs.LegalReport.{has_form}
use Rattle.map_history.specs.Operation.{Ask}
use Rattle.map_history.specs.Reply.{MapReply, Value, Row, Done, Absent, Duplicate}
use Rattle.map_history.specs.Report.{Columns, Answer, Replied, LogFull}
use Rattle.report_forms.specs.Answers.{answer_told, columns_told, counted_answer, is_answer_to, is_small, prints_row, point_told, row_answer, value_answer}
use Rattle.report_forms.specs.Limits.{is_key, is_value}
use Rattle.script.specs.Grammar.{only, both, decimal_from, field_of, tuple_of}
use Rattle.report_reading.specs.declared.misread.Misread.{Misread}
use Rattle.report_reading.specs.declared.misread.Misread.TheVariants as misread
use Rattle.report_reading.specs.Answers.{counted_told, found_told, space_told, tells_answer, word_reply}
use Rattle.report_reading.specs.Numbers.{small_number}
use Rattle.report_reading.specs.Reads.{passing, TellsNone}

-- the answer of a point and a value, where both are there
abbrev pub value_made : Columns → Option ℕ → Option (List ℕ) → Option Answer
value_made columns None value = None
value_made columns (Some p) None = None
value_made columns (Some p) (Some v) = Some (Replied (Value v) p columns)

pub value_of : (fields : ℕ) (value point : List ℕ) (columns : Columns) → passing (tells_answer fields) (value_answer value point columns)
    ≡ value_made columns (small_number (point_told point)) (passing is_value (field_of value))
value_of fields value point columns = go (field_of value)
  where
    p : ℕ
    p = point_told point

    test : (v : List ℕ) (x y : Bool) → ◌≡◌ {A = Option Answer} (cond (x && y) (Some (Replied (Value v) p columns)) None) (value_made columns (cond x (Some p) None) (cond y (Some v) None))
    test v true true = refl
    test v true false = refl
    test v false y = refl

    other : (x : Bool) → ◌≡◌ {A = Option Answer} None (value_made columns (cond x (Some p) None) None)
    other true = refl
    other false = refl

    go : (o : Option (List ℕ)) → passing (tells_answer fields) (elim o [ None ↦ None | Some v ↦ Some (Replied (Value v) p columns) ]) ≡ value_made columns (small_number p) (passing is_value o)
    go None = other (ltb p (2 ^ 64))
    go (Some v) = test v (ltb p (2 ^ 64)) (is_value v)

-- no value
pub value_none : (fields : ℕ) (value point : List ℕ) (columns : Columns) (e : Misread) → TellsNone e (passing is_value (field_of value)) → TellsNone e (passing (tells_answer fields) (value_answer value point columns))
value_none fields value point columns misread.NoMemory h = tt
value_none fields value point columns misread.BadLine h = value_of fields value point columns ∙ (ap (value_made columns (small_number (point_told point))) h ∙ none (small_number (point_told point)))
  where
    none : (o : Option ℕ) → value_made columns o None ≡ None
    none None = refl
    none (Some p) = refl

-- the answer of a point and a row, where both are there
abbrev pub row_made : Columns → Option ℕ → Option FieldList → Option (List ℕ) → Option Answer
row_made columns None key value = None
row_made columns (Some p) None value = None
row_made columns (Some p) (Some k) None = None
row_made columns (Some p) (Some k) (Some v) = Some (Replied (Row k v) p columns)

pub row_of : (fields : ℕ) (key value point : List ℕ) (columns : Columns) → passing (tells_answer fields) (row_answer key value point columns)
    ≡ row_made columns (small_number (point_told point)) (passing (is_key fields) (tuple_of key)) (passing is_value (field_of value))
row_of fields key value point columns = go (tuple_of key) (field_of value)
  where
    p : ℕ
    p = point_told point

    test : (k : FieldList) (v : List ℕ) (x y z : Bool) → ◌≡◌ {A = Option Answer} (cond (x && (y && z)) (Some (Replied (Row k v) p columns)) None) (row_made columns (cond x (Some p) None) (cond y (Some k) None) (cond z (Some v) None))
    test k v true true true = refl
    test k v true true false = refl
    test k v true false z = refl
    test k v false y z = refl

    other : (k : FieldList) (x y : Bool) → ◌≡◌ {A = Option Answer} None (row_made columns (cond x (Some p) None) (cond y (Some k) None) None)
    other k true true = refl
    other k true false = refl
    other k false y = refl

    no_key : (x : Bool) (o : Option (List ℕ)) → ◌≡◌ {A = Option Answer} None (row_made columns (cond x (Some p) None) None o)
    no_key true o = refl
    no_key false o = refl

    go : (o : Option FieldList) (q : Option (List ℕ)) → passing (tells_answer fields) (elim o [ None ↦ None | Some k ↦ elim q [ None ↦ None | Some v ↦ Some (Replied (Row k v) p columns) ] ])
        ≡ row_made columns (small_number p) (passing (is_key fields) o) (passing is_value q)
    go None q = no_key (ltb p (2 ^ 64)) (passing is_value q)
    go (Some k) None = other k (ltb p (2 ^ 64)) (is_key fields k)
    go (Some k) (Some v) = test k v (ltb p (2 ^ 64)) (is_key fields k) (is_value v)

-- no key, or no value
pub row_unkeyed : (fields : ℕ) (key value point : List ℕ) (columns : Columns) (e : Misread) → TellsNone e (passing (is_key fields) (tuple_of key)) → TellsNone e (passing (tells_answer fields) (row_answer key value point columns))
row_unkeyed fields key value point columns misread.NoMemory h = tt
row_unkeyed fields key value point columns misread.BadLine h =
    row_of fields key value point columns ∙ (ap (λ (o : Option FieldList). row_made columns (small_number (point_told point)) o (passing is_value (field_of value))) h ∙ none (small_number (point_told point)) (passing is_value (field_of value)))
  where
    none : (o : Option ℕ) (q : Option (List ℕ)) → row_made columns o None q ≡ None
    none None q = refl
    none (Some p) q = refl

pub row_none : (fields : ℕ) (key value point : List ℕ) (columns : Columns) (e : Misread) → TellsNone e (passing is_value (field_of value)) → TellsNone e (passing (tells_answer fields) (row_answer key value point columns))
row_none fields key value point columns misread.NoMemory h = tt
row_none fields key value point columns misread.BadLine h =
    row_of fields key value point columns ∙ (ap (row_made columns (small_number (point_told point)) (passing (is_key fields) (tuple_of key))) h ∙ none (small_number (point_told point)) (passing (is_key fields) (tuple_of key)))
  where
    none : (o : Option ℕ) (q : Option FieldList) → row_made columns o q None ≡ None
    none None q = refl
    none (Some p) None = refl
    none (Some p) (Some k) = refl

-- the answer of a full log
pub long_told : (said number : List ℕ) (columns : Columns) → bytes_eq said (codes "log-full") ≡ true → passing is_small (counted_answer said number columns) ≡ option_map (λ (n : ℕ). LogFull n columns) (small_number (decimal_from 0 number))
long_told said number columns is = rw is (test (ltb (decimal_from 0 number) (2 ^ 64)))
  where
    test : (x : Bool) → ◌≡◌ {A = Option Answer} (cond x (Some (LogFull (decimal_from 0 number) columns)) None) (option_map (λ (n : ℕ). LogFull n columns) (cond x (Some (decimal_from 0 number)) None))
    test true = refl
    test false = refl

-- the answer of another word
pub word_told : (said number : List ℕ) (columns : Columns) (r : MapReply) → bytes_eq said (codes "log-full") ≡ false → Some r ≡ word_reply said
    → passing is_small (counted_answer said number columns) ≡ option_map (λ (p : ℕ). Replied r p columns) (small_number (point_told number))
word_told said number columns r other is = rw other (go (bytes_eq said (codes "ok")) (bytes_eq said (codes "absent")) (bytes_eq said (codes "duplicate")) is)
  where
    p : ℕ
    p = point_told number

    test : (s : MapReply) (x : Bool) → s ≡ r → ◌≡◌ {A = Option Answer} (cond x (Some (Replied s p columns)) None) (option_map (λ (n : ℕ). Replied r n columns) (cond x (Some p) None))
    test s true e = ap (λ (t : MapReply). Some (Replied t p columns)) e
    test s false e = refl

    go : (a b c : Bool) → Some r ≡ cond a (Some Done) (cond b (Some Absent) (cond c (Some Duplicate) None))
        → passing is_small (cond a (Some (Replied Done p columns)) (cond b (Some (Replied Absent p columns)) (cond c (Some (Replied Duplicate p columns)) None))) ≡ option_map (λ (n : ℕ). Replied r n columns) (small_number p)
    go true b c e = test Done (ltb p (2 ^ 64)) (cc)
    go false true c e = test Absent (ltb p (2 ^ 64)) (cc)
    go false false true e = test Duplicate (ltb p (2 ^ 64)) (cc)
    go false false false e = absurd cc

-- what is told behind each word
pub space_words : (fields : ℕ) (number said : List ℕ) (words : List (List ℕ)) → said ≡ codes "space-full" → passing (tells_answer fields) (answer_told (number ∷ said ∷ words)) ≡ space_told words
space_words fields number said words is = ap (λ (s : List ℕ). passing (tells_answer fields) (answer_told (number ∷ s ∷ words))) is ∙ go words
  where
    go : (ws : List (List ℕ)) → passing (tells_answer fields) (answer_told (number ∷ codes "space-full" ∷ ws)) ≡ space_told ws
    go [] = refl
    go (a ∷ []) = refl
    go (a ∷ b ∷ []) = refl
    go (a ∷ b ∷ c ∷ []) = refl
    go (a ∷ b ∷ c ∷ d ∷ []) = refl
    go (a ∷ b ∷ c ∷ d ∷ e ∷ []) = refl
    go (a ∷ b ∷ c ∷ d ∷ e ∷ f ∷ ws) = refl

pub found_words : (fields : ℕ) (number said : List ℕ) (words : List (List ℕ)) → said ≡ codes "found" → passing (tells_answer fields) (answer_told (number ∷ said ∷ words)) ≡ passing (tells_answer fields) (found_told words)
found_words fields number said words is = ap (λ (s : List ℕ). passing (tells_answer fields) (answer_told (number ∷ s ∷ words))) is ∙ go words
  where
    go : (ws : List (List ℕ)) → passing (tells_answer fields) (answer_told (number ∷ codes "found" ∷ ws)) ≡ passing (tells_answer fields) (found_told ws)
    go [] = refl
    go (a ∷ []) = refl
    go (a ∷ b ∷ []) = refl
    go (a ∷ b ∷ c ∷ []) = refl
    go (a ∷ b ∷ c ∷ d ∷ []) = refl
    go (a ∷ b ∷ c ∷ d ∷ e ∷ []) = refl
    go (a ∷ b ∷ c ∷ d ∷ e ∷ f ∷ ws) = refl

counted_passes : (fields : ℕ) (said number : List ℕ) (columns : Columns) → passing (tells_answer fields) (counted_answer said number columns) ≡ passing is_small (counted_answer said number columns)
counted_passes fields said number columns = go (bytes_eq said (codes "log-full")) (bytes_eq said (codes "ok")) (bytes_eq said (codes "absent")) (bytes_eq said (codes "duplicate"))
  where
    p : ℕ
    p = point_told number

    test : (a : Answer) (x : Bool) → ◌≡◌ {A = Option Answer} (cond (x && true) (Some a) None) (cond x (Some a) None)
    test a true = refl
    test a false = refl

    go : (s a b c : Bool) → passing (tells_answer fields) (cond s (Some (LogFull (decimal_from 0 number) columns)) (cond a (Some (Replied Done p columns)) (cond b (Some (Replied Absent p columns)) (cond c (Some (Replied Duplicate p columns)) None))))
        ≡ passing is_small (cond s (Some (LogFull (decimal_from 0 number) columns)) (cond a (Some (Replied Done p columns)) (cond b (Some (Replied Absent p columns)) (cond c (Some (Replied Duplicate p columns)) None))))
    go true a b c = test (LogFull (decimal_from 0 number) columns) (ltb (decimal_from 0 number) (2 ^ 64))
    go false true b c = test (Replied Done p columns) (ltb p (2 ^ 64))
    go false false true c = test (Replied Absent p columns) (ltb p (2 ^ 64))
    go false false false true = test (Replied Duplicate p columns) (ltb p (2 ^ 64))
    go false false false false = refl

pub counted_words : (fields : ℕ) (number said : List ℕ) (words : List (List ℕ)) → bytes_eq said (codes "space-full") ≡ false → bytes_eq said (codes "found") ≡ false
    → passing (tells_answer fields) (answer_told (number ∷ said ∷ words)) ≡ passing is_small (counted_told said words)
counted_words fields number said [] full found = refl
counted_words fields number said (a ∷ []) full found = refl
counted_words fields number said (a ∷ b ∷ []) full found = rw full refl
counted_words fields number said (a ∷ b ∷ c ∷ []) full found = counted_passes fields said a (columns_told b c)
counted_words fields number said (a ∷ b ∷ c ∷ d ∷ []) full found = rw found refl
counted_words fields number said (a ∷ b ∷ c ∷ d ∷ e ∷ []) full found = rw found refl
counted_words fields number said (a ∷ b ∷ c ∷ d ∷ e ∷ f ∷ words) full found = refl

-- the words behind three
only_is : (ws : List (List ℕ)) (a : List ℕ) → Some a ≡ only ws → ws ≡ a ∷ []
only_is [] a h = absurd cc
only_is (b ∷ []) a h = cc
only_is (b ∷ c ∷ ws) a h = absurd cc

pub four_words : (ws ws1 ws2 ws3 : List (List ℕ)) (a b c d : List ℕ) → ws ≡ a ∷ ws1 → ws1 ≡ b ∷ ws2 → ws2 ≡ c ∷ ws3 → Some d ≡ only ws3 → ws ≡ a ∷ b ∷ c ∷ d ∷ []
four_words ws ws1 ws2 ws3 a b c d one two three last = one ∙ ap (λ (r : List (List ℕ)). a ∷ r) (two ∙ ap (λ (r : List (List ℕ)). b ∷ r) (three ∙ ap (λ (r : List (List ℕ)). c ∷ r) (only_is ws3 d last)))

pub not_found : (a b c : List ℕ) (ws : List (List ℕ)) → None ≡ only ws → None ≡ both ws → found_told (a ∷ b ∷ c ∷ ws) ≡ None
not_found a b c [] one two = refl
not_found a b c (d ∷ []) one two = absurd cc
not_found a b c (d ∷ e ∷ []) one two = absurd cc
not_found a b c (d ∷ e ∷ f ∷ ws) one two = refl

-- what may be answered of what is told
pub answers_of : (fields : ℕ) (ask : Ask) (told : Option Answer) → passing (is_answer_to fields ask) told ≡ passing (has_form ask) (passing (tells_answer fields) told)
answers_of fields ask None = refl
answers_of fields ask (Some a) = go (has_form ask a) (is_small a) (prints_row fields a) refl
  where
    go : (f s p : Bool) → has_form ask a ≡ f → ◌≡◌ {A = Option Answer} (cond ((f && s) && p) (Some a) None) (passing (has_form ask) (cond (s && p) (Some a) None))
    go true true true e = ap (λ (b : Bool). cond b (Some a) None) (sym e)
    go true true false e = refl
    go true false p e = refl
    go false true true e = ap (λ (b : Bool). cond b (Some a) None) (sym e)
    go false true false e = refl
    go false false p e = refl

pub answers_none : (fields : ℕ) (ask : Ask) (told : Option Answer) (e : Misread) → TellsNone e (passing (tells_answer fields) told) → TellsNone e (passing (is_answer_to fields ask) told)
answers_none fields ask told misread.NoMemory h = tt
answers_none fields ask told misread.BadLine h = answers_of fields ask told ∙ ap (passing (has_form ask)) h
