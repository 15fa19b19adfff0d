-- The program's schemas and keys as plain lists.
use Rattle.std.specs.Prelude.{map, string_bytes}
use Rattle.script.specs.declared.schema.Schema.{Schema}
use Rattle.script.specs.declared.draft.Draft.{Draft}
use Rattle.key_tuple.specs.Order.{FieldList}
use Rattle.key_tuple.specs.Parts.{parts}
use Rattle.script.specs.declared.rows.KeyText.{KeyText}
use Rattle.script.specs.Schema.{SchemaText, SchemaDraft}

-- the schema that a draft stands for
abbrev pub draft_text : Draft → SchemaText
draft_text d = record {
  sizes = d.sizes;
  names = map string_bytes d.names.items;
  fields = d.fields.items;
}

-- a draft: its schema, and the settings that were given
abbrev pub draft_view : Draft → SchemaDraft
draft_view d = record { text = draft_text d; given = d.given.items }

-- a schema's text
abbrev pub schema_text : Schema → SchemaText
schema_text s = record {
  sizes = s.sizes;
  names = map string_bytes s.names.items;
  fields = s.fields.items;
}

-- the fields that a key's text has
abbrev pub text_fields : KeyText → FieldList
text_fields t = parts t.bytes.items 0 t.ends.items
