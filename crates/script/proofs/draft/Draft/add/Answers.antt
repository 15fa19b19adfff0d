-- A name and its count more.
use Rattle.std.proofs.Common.{◌≡◌, ℕ, List, [], ◌∷◌, ◌++◌, map, ap, ◌∙◌, String, Global, string_bytes}
use Rattle.std.proofs.lemmas.List.{map-append}
use Rattle.script.proofs.NameFacts.{name_small}
use Rattle.script.proofs.draft.Draft.add.Goals as goal

-- one text more
texts_grow : (old new : List (String Global)) (text : String Global) (name : List ℕ) → new ≡ old ++ text ∷ [] → string_bytes text ≡ name → map string_bytes new ≡ map string_bytes old ++ name ∷ []
texts_grow old new text name grown is = ap (map string_bytes) grown ∙ map-append string_bytes old (text ∷ []) ∙ ap (λ (n : List ℕ). map string_bytes old ++ n ∷ []) is

pub returns : goal.returns
returns c =
    let names = texts_grow c.args.self.now.names.items c.push.new.self.items c.in_ok-name_text.field-0 c.args.name.now c.in_ok-push.ensures.items c.in_ok-name_text.ensures in
    rw (names, c.in_ok-push-2.ensures.items)

pub name_text-requires : goal.name_text-requires
name_text-requires c = name_small c.args.name.now c.requires
