-- What holds of each line of a lane that is spelled.
use Rattle.std.proofs.Common.{◌≡◌, ℕ, ◌+◌, ◌<◌, ◌≤◌, Bool, true, false, cond, eqb, leb, ltb, inl, inr, List, [], ◌∷◌, length, Option, Some, None, Result, Ok, Err, ap, subst, arith}
use Rattle.std.specs.Prelude.{slice_index, ok_or, IfOk}
use Rattle.std.specs.List.{All, AllByRecursion}
use Rattle.std.specs.Str.{bytes_eq}
use Rattle.std.proofs.lemmas.List.{get_or_past}
use Rattle.std.proofs.lemmas.List.Elements.{All-get_or, All-weaker}
use Rattle.std.proofs.lemmas.List.Quantifiers.{position-Some}
use Rattle.std.proofs.lemmas.Bool.{eqb-true, leb-true, ltb-false, cases_lt}
use Rattle.list_facts.proofs.Each.{each_append}
use Rattle.key_tuple.specs.declared.TheConstants.{MAX_FIELDS, MAX_KEY_BYTES, MAX_VALUE_BYTES}
use Rattle.key_tuple.specs.Order.{FieldList, byte_count}
use Rattle.key_tuple.specs.declared.mode.Mode.{Mode}
use Rattle.map_history.specs.Map.{Put, Set, Del}
use Rattle.map_history.specs.Operation.{Operation, Ask, Get, Make, Seek, Scan}
use Rattle.map_history.specs.LegalReport.{Line}
use Rattle.script.specs.declared.error.Flaw.TheVariants.{BadLine, UnknownIndex, TooLong}
use Rattle.script.specs.declared.error.ScriptError.{ScriptError}
use Rattle.script.specs.declared.verb.Verb.{Verb}
use Rattle.script.specs.declared.verb.Verb.TheVariants as verb
use Rattle.script.specs.Steps.{◌>>=◌, or_bad, GivesWhole}
use Rattle.map_history.specs.Bytes.{AreFields, IsValue}
use Rattle.script.specs.Grammar.{only, both, exactly, at_most, key_spelled, tuple_spelled, tuple_of, field_of, short_key, short_value, is_name, says_nothing, line_words, lines_of}
use Rattle.script.specs.Schema.{SchemaText, IsFieldCount, index_by_name}
use Rattle.script.specs.Lane.{verb_named, mode_named, index_named, key_parts, row_parts, search_parts, ask_of, operation_for, operation_in, line_meaning, lane_from, lane_of, line_said, fields_asked, FitsFields, HasValue, IsLaneLine}
use Rattle.script.proofs.ByteFacts.{field_small, tuple_written}
use Rattle.script.proofs.LaneSteps.{step, no_lines}
use Rattle.script.proofs.Results.{bind_ok, some_of, not_chosen, given}

-- the fields of a key or a tuple, within their limit
record AreShort (fields : FieldList) : Type 0 where
  written : AreFields fields
  short : byte_count fields ≤ MAX_KEY_BYTES

exactly_so : (n : ℕ) (o : Option FieldList) (fields : FieldList) → exactly n o ≡ Some fields → (o ≡ Some fields) × (length fields ≡ n)
exactly_so n None fields h = absurd cc
exactly_so n (Some xs) fields h =
    let g = given (eqb (length xs) n) xs fields h in
    (ap Some g.1, subst (λ (f : FieldList). length f ≡ n) g.1 (eqb-true _ _ g.0))

at_most_so : (n : ℕ) (o : Option FieldList) (fields : FieldList) → at_most n o ≡ Some fields → (o ≡ Some fields) × (length fields ≤ n)
at_most_so n None fields h = absurd cc
at_most_so n (Some xs) fields h =
    let g = given (leb (length xs) n) xs fields h in
    (ap Some g.1, subst (λ (f : FieldList). length f ≤ n) g.1 (leb-true _ _ g.0))

-- what a word writes is short where it isn't refused for its length
are_short : (P : FieldList → Type 0) (word : List ℕ) (fields kept : FieldList) → tuple_of word ≡ Some fields → P fields → short_key fields ≡ Ok kept → P kept × AreShort kept
are_short P word fields kept h p g =
    let within = not_chosen (ltb MAX_KEY_BYTES (byte_count fields)) fields kept TooLong g in
    subst (λ (f : FieldList). P f × AreShort f) within.1 (p, record { written = tuple_written word fields h; short = ltb-false _ _ within.0 })

key_short : (n : ℕ) (word : List ℕ) (fields key : FieldList) → or_bad (key_spelled n word) ≡ Ok fields → short_key fields ≡ Ok key → (length key ≡ n) × AreShort key
key_short n word fields key h g =
    let so = exactly_so n (tuple_of word) fields (some_of _ _ h) in
    are_short (λ (f : FieldList). length f ≡ n) word fields key so.0 so.1 g

key_parts_short : (n : ℕ) (parts : List (List ℕ)) (key : FieldList) → key_parts n parts ≡ Ok key → (length key ≡ n) × AreShort key
key_parts_short n parts key h =
    let word = bind_ok (or_bad (only parts)) _ key h in
    let fields = bind_ok (or_bad (key_spelled n word.0)) _ key word.2 in
    key_short n word.0 fields.0 key fields.1 fields.2

search_parts_short : (n : ℕ) (parts : List (List ℕ)) (search : Mode × FieldList) → search_parts n parts ≡ Ok search → (length search.1 ≤ n) × AreShort search.1
search_parts_short n parts search h =
    let two = bind_ok (or_bad (both parts)) _ search h in
    let by = bind_ok (or_bad (mode_named two.0.0)) _ search two.2 in
    let fields = bind_ok (or_bad (tuple_spelled n two.0.1)) _ search by.2 in
    let tuple = bind_ok (short_key fields.0) (λ (t : FieldList). Ok (by.0, t)) search fields.2 in
    let whole : (by.0, tuple.0) ≡ search = cc in
    let so = at_most_so n (tuple_of two.0.1) fields.0 (some_of _ _ fields.1) in
    subst (λ (s : Mode × FieldList). (length s.1 ≤ n) × AreShort s.1) whole
    (are_short (λ (f : FieldList). length f ≤ n) two.0.1 fields.0 tuple.0 so.0 so.1 tuple.1)

value_short : (word bytes value : List ℕ) → or_bad (field_of word) ≡ Ok bytes → short_value bytes ≡ Ok value → IsValue value
value_short word bytes value h g =
    let kept = not_chosen (ltb MAX_VALUE_BYTES (length bytes)) bytes value TooLong g in
    subst (λ (v : List ℕ). IsValue v) kept.1 (record { bytes = field_small word bytes (some_of _ _ h); short = ltb-false _ _ kept.0 })

row_parts_short : (n : ℕ) (parts : List (List ℕ)) (row : FieldList × List ℕ) → row_parts n parts ≡ Ok row
    → ((length row.0 ≡ n) × AreShort row.0) × IsValue row.1
row_parts_short n parts row h =
    let two = bind_ok (or_bad (both parts)) _ row h in
    let fields = bind_ok (or_bad (key_spelled n two.0.0)) _ row two.2 in
    let bytes = bind_ok (or_bad (field_of two.0.1)) _ row fields.2 in
    let key = bind_ok (short_key fields.0) _ row bytes.2 in
    let value = bind_ok (short_value bytes.0) (λ (v : List ℕ). Ok (key.0, v)) row key.2 in
    let whole : (key.0, value.0) ≡ row = cc in
    subst (λ (p : FieldList × List ℕ). ((length p.0 ≡ n) × AreShort p.0) × IsValue p.1) whole
    (key_short n two.0.0 fields.0 key.0 fields.1 key.1, value_short two.0.1 bytes.0 value.0 bytes.1 value.1)

-- what is asked fits keys of n fields, within the limits
record IsShortAsk (n : ℕ) (ask : Ask) : Type 0 where
  fits : FitsFields n ask
  fields : AreShort (fields_asked ask)
  value : HasValue ask

ask_short : (kind : Verb) (n : ℕ) (parts : List (List ℕ)) (ask : Ask) → ask_of kind n parts ≡ Ok ask → IsShortAsk n ask
ask_short verb.Get n parts ask h =
    let key = bind_ok (key_parts n parts) (λ (k : FieldList). Ok (Get k)) ask h in
    let is : Get key.0 ≡ ask = cc in
    let short = key_parts_short n parts key.0 key.1 in
    subst (λ (a : Ask). IsShortAsk n a) is (record { fits = short.0; fields = short.1; value = tt })
ask_short verb.Put n parts ask h =
    let row = bind_ok (row_parts n parts) (λ (r : FieldList × List ℕ). Ok (Make (Put r.0 r.1))) ask h in
    let is : Make (Put row.0.0 row.0.1) ≡ ask = cc in
    let short = row_parts_short n parts row.0 row.1 in
    subst (λ (a : Ask). IsShortAsk n a) is (record { fits = short.0.0; fields = short.0.1; value = short.1 })
ask_short verb.Set n parts ask h =
    let row = bind_ok (row_parts n parts) (λ (r : FieldList × List ℕ). Ok (Make (Set r.0 r.1))) ask h in
    let is : Make (Set row.0.0 row.0.1) ≡ ask = cc in
    let short = row_parts_short n parts row.0 row.1 in
    subst (λ (a : Ask). IsShortAsk n a) is (record { fits = short.0.0; fields = short.0.1; value = short.1 })
ask_short verb.Del n parts ask h =
    let key = bind_ok (key_parts n parts) (λ (k : FieldList). Ok (Make (Del k))) ask h in
    let is : Make (Del key.0) ≡ ask = cc in
    let short = key_parts_short n parts key.0 key.1 in
    subst (λ (a : Ask). IsShortAsk n a) is (record { fits = short.0; fields = short.1; value = tt })
ask_short verb.Seek n parts ask h =
    let search = bind_ok (search_parts n parts) (λ (s : Mode × FieldList). Ok (Seek s.0 s.1)) ask h in
    let is : Seek search.0.0 search.0.1 ≡ ask = cc in
    let short = search_parts_short n parts search.0 search.1 in
    subst (λ (a : Ask). IsShortAsk n a) is (record { fits = short.0; fields = short.1; value = tt })

found : (o : Option ℕ) (i : ℕ) → ok_or o UnknownIndex ≡ Ok i → o ≡ Some i
found None i h = absurd cc
found (Some j) i h = cc

named_below : (named : Bool) (names : List (List ℕ)) (name : List ℕ) (i : ℕ) → cond named (ok_or (index_by_name names name) UnknownIndex) (Err BadLine) ≡ Ok i → i < length names
named_below false names name i h = absurd cc
named_below true names name i h = (position-Some (λ (known : List ℕ). bytes_eq known name) names i [] (found _ i h)).0

-- an operation that a known index can be asked
record IsOperation (s : SchemaText) (op : Operation) : Type 0 where
  known : op.index < length s.names
  short : IsShortAsk (slice_index s.fields op.index) op.ask

operation_is : (s : SchemaText) (words : List (List ℕ)) (op : Operation) → operation_in s words ≡ Ok op → IsOperation s op
operation_is s [] op h = absurd cc
operation_is s (word ∷ []) op h = absurd cc
operation_is s (word ∷ name ∷ parts) op h =
    let kind = bind_ok (or_bad (verb_named word)) _ op h in
    let i = bind_ok (index_named s name) (λ (j : ℕ). operation_for kind.0 j (slice_index s.fields j) parts) op kind.2 in
    let ask = bind_ok (ask_of kind.0 (slice_index s.fields i.0) parts) (λ (a : Ask). Ok (record { index = i.0; ask = a })) op i.2 in
    let made : Operation = record { index = i.0; ask = ask.0 } in
    let is : made ≡ op = cc in
    subst (λ (o : Operation). IsOperation s o) is (record { known = named_below (is_name name) s.names name i.0 i.1; short = ask_short kind.0 _ parts ask.0 ask.1 })

-- no more fields are asked about than a key has
asks_few : (n : ℕ) (ask : Ask) → FitsFields n ask → length (fields_asked ask) ≤ n
asks_few n (Get k) h = omega (arith, h)
asks_few n (Make c) h = omega (arith, h)
asks_few n (Seek mode tuple) h = h
asks_few n (Scan from to limit) h = absurd h

-- an index without a number of fields would have keys of none
has_count : (fields : List ℕ) (i : ℕ) (ask : Ask) → IsShortAsk (slice_index fields i) ask → i < length fields
has_count fields i ask short =
    elim (cases_lt i (length fields)) [
      | inl low ↦ low
      | inr high ↦ absurd (omega (arith, asks_few _ ask short.fits, short.fields.written.some, get_or_past fields i 0 high))
    ]

-- no index has more fields than a key may have
abbrev AreFew : List ℕ → Type 0
AreFew fields = All (λ (n : ℕ). n ≤ MAX_FIELDS) fields

is_line : (s : SchemaText) (n : ℕ) (op : Operation) → AreFew s.fields → IsOperation s op → IsLaneLine s (record { line = n; op = op })
is_line s n op few is =
    let there : op.index < length s.fields = has_count s.fields op.index op.ask is.short in
    let most = All-get_or (λ (k : ℕ). k ≤ MAX_FIELDS) s.fields op.index 0 there few in
    record {
      known = is.known;
      counted = there;
      fields = is.short.fits;
      written = is.short.fields.written;
      within = record { few = omega (arith, most, asks_few _ op.ask is.short.fits); short = is.short.fields.short };
      value = is.short.value;
    }

said_is : (s : SchemaText) (n : ℕ) (silent : Bool) (words : List (List ℕ)) (said : Option Operation) → AreFew s.fields
    → cond silent (Ok None) (operation_in s words >>= λ (op : Operation). Ok (Some op)) ≡ Ok said → AllByRecursion (IsLaneLine s) (line_said n said)
said_is s n true words said few h =
    let is : None ≡ said = cc in
    subst (λ (o : Option Operation). AllByRecursion (IsLaneLine s) (line_said n o)) is tt
said_is s n false words said few h =
    let op = bind_ok (operation_in s words) (λ (o : Operation). Ok (Some o)) said h in
    let is : Some op.0 ≡ said = cc in
    subst (λ (o : Option Operation). AllByRecursion (IsLaneLine s) (line_said n o)) is (is_line s n op.0 few (operation_is s words op.0 op.1), tt)

line_is : (s : SchemaText) (n : ℕ) (line : List ℕ) (said : Option Operation) → AreFew s.fields → line_meaning s line ≡ Ok said → AllByRecursion (IsLaneLine s) (line_said n said)
unfolding line_meaning
line_is s n line said few h = said_is s n (says_nothing line) (line_words line) said few h

from_is : (s : SchemaText) (n : ℕ) (texts : List (List ℕ)) (lines : List Line) → AreFew s.fields → lane_from n s texts ≡ Ok lines → AllByRecursion (IsLaneLine s) lines
from_is s n [] lines few h = subst (AllByRecursion (IsLaneLine s)) (no_lines lines s n h) tt
from_is s n (text ∷ texts) lines few h =
    let x = step s n text texts lines h in
    subst (AllByRecursion (IsLaneLine s)) x.whole (each_append (IsLaneLine s) (line_said n x.said) x.more (line_is s n text x.said few x.says) (from_is s (n + 1) texts x.more few x.later))

-- each line of a lane that a file spells is one, over a schema in which no index has too many fields
pub spelled_lane : (s : SchemaText) (bytes : List ℕ) (lines : List Line) → All (λ (n : ℕ). n ≤ MAX_FIELDS) s.fields → lane_of s bytes ≡ Ok lines → AllByRecursion (IsLaneLine s) lines
unfolding lane_of
spelled_lane s bytes lines few h = from_is s 1 (lines_of bytes) lines few h

-- so in a lane that the program gives
pub told_lane : {X : Type 0} (s : SchemaText) (bytes : List ℕ) (view : X → List Line) (result : Result X ScriptError) → All IsFieldCount s.fields
    → GivesWhole view result (lane_of s bytes) → IfOk result (λ v. AllByRecursion (IsLaneLine s) (view v))
told_lane s bytes view (Ok v) counts h = spelled_lane s bytes (view v) (All-weaker IsFieldCount (λ (n : ℕ). n ≤ MAX_FIELDS) (λ n c. c.1) s.fields counts) h
told_lane s bytes view (Err e) counts h = tt
