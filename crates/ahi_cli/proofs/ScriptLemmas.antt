-- What the run of a script tells of the files that spell it.
use Rattle.std.proofs.Common.{◌≡◌, ◌⊎◌, ℕ, ◌≤◌, Option, Some, None, IfSome, Ok, Err, List, length, refl, ap, ◌∙◌, sym, subst, arith, inl, inr}
use Rattle.std.specs.Prelude.{vec_len}
use Rattle.std.specs.Option.{ForSome, IsSomeAnd, option_map}
use Rattle.map_history.specs.declared.TheConstants.{MAX_INDEXES, MAX_LANES}
use Rattle.map_history.specs.LegalReport.{Line}
use Rattle.script.specs.Schema.{SchemaText}
use Rattle.script.specs.Views.{schema_text}
use Rattle.lane_threads.specs.Engine.{EngineError}
use Rattle.settings.specs.declared.setting.Setting.{Setting}
use Rattle.settings.specs.Limits.{first_broken}
use Rattle.lane_threads.specs.Together.{lane_texts, AllAreLinesOf}
use Rattle.ahi_cli.specs.declared.files.Script.{Script}
use Rattle.ahi_cli.specs.declared.stop.Stop.{Stop}
use Rattle.ahi_cli.specs.declared.stop.Stop.TheVariants as stop
use Rattle.ahi_cli.specs.Files.{Spells}
use Rattle.ahi_cli.specs.FirstRefusal.{named_stop, sizes_stop}
use Rattle.ahi_cli.specs.Run.{Asked, HasFirst, Tells, Stops}
use Rattle.ahi_cli.specs.Scripts.{IsScript, TellsScript, RefusesSizes}
use Rattle.ahi_cli.specs.Words.{accepted}
use Rattle.ahi_cli.proofs.FirstLemmas.{unrefused}

-- files that spell a run have no first refusal but that of its sizes
pub sizes_first : (asked : Asked) (names : List ℕ × List (List ℕ)) (schema : SchemaText) (lanes : List (List Line)) → accepted asked.words ≡ Some names → ForSome asked.told (λ files. Spells files names schema lanes) → HasFirst asked (sizes_stop schema (length names.1))
sizes_first asked names schema lanes accepts spelled = λ files e. ap (named_stop files) accepts ∙ unrefused files names schema lanes (spelled files e)

-- the setting for which an engine wasn't opened is the refusal of the sizes
pub broken_sizes : (schema : SchemaText) (indexes lanes : ℕ) (e : EngineError) (setting : Setting) → e ≡ EngineError.BadSize setting → indexes ≡ length schema.names → (e ≡ EngineError.NoMemory) ⊎ IsSomeAnd (first_broken schema.sizes indexes lanes) (λ s. e ≡ EngineError.BadSize s) → sizes_stop schema lanes ≡ Some (stop.Sizes setting)
broken_sizes schema indexes lanes e setting is count cause = ap (λ n. option_map stop.Sizes (first_broken schema.sizes n lanes)) (sym count)
    ∙ elim cause [ inl lacked ↦ absurd (let other = sym is ∙ lacked in cc) | inr broken ↦ of (first_broken schema.sizes indexes lanes) broken ]
  where
    of : (o : Option Setting) → IsSomeAnd o (λ s. e ≡ EngineError.BadSize s) → option_map stop.Sizes o ≡ Some (stop.Sizes setting)
    of None broken = absurd broken
    of (Some s) broken = let same : EngineError.BadSize s ≡ EngineError.BadSize setting = sym broken ∙ is in ap (λ z. Some (stop.Sizes z)) (let named : s ≡ setting = cc in named)

-- where no setting keeps an engine from being opened, the sizes have no refusal
pub opened_sizes : {Work : Type 0} (schema : SchemaText) (indexes lanes : ℕ) (work : Work) → indexes ≡ length schema.names → IfSome (first_broken schema.sizes indexes lanes) (λ s. Ok work ≡ Err (EngineError.BadSize s)) → sizes_stop schema lanes ≡ None
opened_sizes schema indexes lanes work count opened = ap (λ n. option_map stop.Sizes (first_broken schema.sizes n lanes)) (sym count) ∙ of (first_broken schema.sizes indexes lanes) opened
  where
    of : (o : Option Setting) → IfSome o (λ s. Ok work ≡ Err (EngineError.BadSize s)) → option_map stop.Sizes o ≡ None
    of None ok = refl
    of (Some s) ok = absurd (let other = ok in cc)

-- what is told of a script is told of the files that spell it
pub tells : (IsTold : SchemaText → List (List Line) → List ℕ → Type 0) (asked : Asked) (names : List ℕ × List (List ℕ)) (script : Script) (bytes : List ℕ) → accepted asked.words ≡ Some names → ForSome asked.told (λ files. Spells files names (schema_text script.schema) (lane_texts script.lanes.items)) → length script.lanes.items ≡ length names.1 → TellsScript IsTold script bytes → Tells IsTold asked bytes
tells IsTold asked names script bytes accepts spelled count t = record {
  names = names;
  accepts = accepts;
  unrefused = λ files e. sizes_first asked names (schema_text script.schema) (lane_texts script.lanes.items) accepts spelled files e ∙ (ap (sizes_stop (schema_text script.schema)) (sym count) ∙ t.sizes);
  report = λ files e. record { schema = schema_text script.schema; lanes = lane_texts script.lanes.items; spelled = spelled files e; told = t.told };
}

-- a refusal of sizes is a setting's
of_setting : (o : Option Setting) (refusal : Stop) → option_map stop.Sizes o ≡ Some refusal → (s : Setting) × (refusal ≡ stop.Sizes s)
of_setting None refusal e = absurd (let none = e in cc)
of_setting (Some s) refusal e = (s, (let same : refusal ≡ stop.Sizes s = cc in same))

-- the refusal of a script's sizes is that of the files that spell it
pub refuses_sizes : (asked : Asked) (names : List ℕ × List (List ℕ)) (script : Script) (refusal : Stop) → accepted asked.words ≡ Some names → ForSome asked.told (λ files. Spells files names (schema_text script.schema) (lane_texts script.lanes.items)) → length script.lanes.items ≡ length names.1 → RefusesSizes script refusal → Stops asked refusal
refuses_sizes asked names script refusal accepts spelled count r =
    let is = of_setting (first_broken script.schema.sizes (length (schema_text script.schema).names) (length script.lanes.items)) refusal r in
    let first : HasFirst asked (Some (stop.Sizes is.0)) = λ files e. sizes_first asked names (schema_text script.schema) (lane_texts script.lanes.items) accepts spelled files e ∙ (ap (sizes_stop (schema_text script.schema)) (sym count) ∙ (r ∙ ap Some is.1)) in
    subst (Stops asked) (sym is.1) (record { names = names; accepts = accepts; first = first })

-- a script that was read is one that can be run
pub is_script : (script : Script) (lanes : ℕ) → (1 ≤ vec_len script.schema.names) × (vec_len script.schema.names ≤ MAX_INDEXES) × (vec_len script.schema.fields ≡ vec_len script.schema.names) → vec_len script.lanes ≡ lanes → (1 ≤ lanes) × (lanes ≤ MAX_LANES) → AllAreLinesOf script.schema.fields.items script.lanes.items → IsScript script
is_script script lanes indexes read few lines =
    let names = script.schema.names.ok.0 in let fields = script.schema.fields.ok.0 in let held = script.lanes.ok.0 in record {
      names = (omega (arith, indexes.0, names), omega (arith, indexes.1, names));
      fields = omega (arith, indexes.2, names, fields);
      lanes = (omega (arith, few.0, read, held), omega (arith, few.1, read, held));
      lines = lines;
    }
