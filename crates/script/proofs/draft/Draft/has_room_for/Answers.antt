-- A name's form, room for an index, and no such name yet, or one of the three lacks.
use Rattle.std.proofs.Common.{◌≡◌, ℕ, Bool, true, false, not, ltb, List, length, Option, Some, None, map, refl, sym, ap, ◌∙◌, String, Global, string_bytes}
use Rattle.std.specs.Prelude.{is_none}
use Rattle.std.specs.Option.{is_some}
use Rattle.std.proofs.lemmas.List.{length-map}
use Rattle.map_history.specs.declared.TheConstants.{MAX_INDEXES}
use Rattle.script.specs.Grammar.{is_name}
use Rattle.script.specs.Schema.{SchemaText, index_by_name, takes_name}
use Rattle.script.specs.Views.{draft_text}
use Rattle.script.proofs.draft.Draft.has_room_for.Goals.{then-has_name_form, else-has_name_form}
use Rattle.script.proofs.draft.Draft.has_room_for.Goals as goal

none_as : (o : Option ℕ) (none : Bool) → is_some o ≡ not none → none ≡ is_none o
none_as None true h = refl
none_as None false h = absurd cc
none_as (Some x) true h = absurd cc
none_as (Some x) false h = refl

is_taken : (s : SchemaText) (name : List ℕ) (new : Bool) → true ≡ is_name name → ltb (length s.names) MAX_INDEXES ≡ true → new ≡ is_none (index_by_name s.names name) → new ≡ takes_name s name
is_taken s name new formed few is = rw (sym formed, few) is

lacks_room : (s : SchemaText) (name : List ℕ) (room : Bool) → true ≡ is_name name → ltb (length s.names) MAX_INDEXES ≡ room → room ≡ false → room ≡ takes_name s name
lacks_room s name room formed full none = rw (sym formed, full, none) refl

lacks_form : (s : SchemaText) (name : List ℕ) (formed : Bool) → false ≡ is_name name → formed ≡ false → formed ≡ takes_name s name
lacks_form s name formed other is = rw (sym other, is) refl

pub returns-then-len-lt-MAX_INDEXES : goal.returns-then-len-lt-MAX_INDEXES
returns-then-len-lt-MAX_INDEXES c =
    let names = c.args.self.now.names in
    let new = none_as c.find_name.result c.is_none.result c.is_none.ensures
    ∙ ap is_none (c.find_name.ensures ∙ ap (λ (ns : List (String Global)). index_by_name (map string_bytes ns) c.args.name.now) c.deref.ensures.value) in
    elim c.if-has_name_form.branch [
      | then-has_name_form w ↦
          let count = length-map names.items string_bytes ∙ sym names.ok.0 ∙ sym w.len.ensures in
          is_taken (draft_text c.args.self.now) c.args.name.now c.is_none.result w.if-has_name_form.ensures (ap (λ (n : ℕ). ltb n MAX_INDEXES) count ∙ sym w.value-is ∙ c.if-len-lt-MAX_INDEXES.true) new
      | else-has_name_form w ↦ absurd (cc w.if-has_name_form.false)
    ]

pub returns-else-len-lt-MAX_INDEXES : goal.returns-else-len-lt-MAX_INDEXES
returns-else-len-lt-MAX_INDEXES c =
    let names = c.args.self.now.names in
    elim c.if-has_name_form.branch [
      | then-has_name_form w ↦
          let count = length-map names.items string_bytes ∙ sym names.ok.0 ∙ sym w.len.ensures in
          lacks_room (draft_text c.args.self.now) c.args.name.now c.if-has_name_form.value w.if-has_name_form.ensures (ap (λ (n : ℕ). ltb n MAX_INDEXES) count ∙ sym w.value-is) c.if-len-lt-MAX_INDEXES.false
      | else-has_name_form w ↦ lacks_form (draft_text c.args.self.now) c.args.name.now c.if-has_name_form.value w.if-has_name_form.ensures c.if-len-lt-MAX_INDEXES.false
    ]
