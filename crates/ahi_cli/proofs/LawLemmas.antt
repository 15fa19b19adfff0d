-- A run ends as its first refusal makes due.
use Rattle.std.proofs.Common.{◌≡◌, ℕ, Some, None, refl, ap, ◌∙◌, sym, subst, ◌⊎◌, inl, inr}
use Rattle.io_port.specs.Shelf.{Files}
use Rattle.ahi_cli.specs.declared.status.Status.{Status}
use Rattle.ahi_cli.specs.declared.status.Status.TheVariants as status
use Rattle.ahi_cli.specs.declared.stop.Stop.{Stop}
use Rattle.ahi_cli.specs.declared.stop.Stop.TheVariants.{Usage, Script, Shelf, TooLarge, Sizes, NoMemory}
use Rattle.ahi_cli.specs.Ends.{Output, IsPut, IsRefused}
use Rattle.ahi_cli.specs.FirstRefusal.{first_refusal, named_stop, sizes_stop}
use Rattle.ahi_cli.specs.Law.{RunEnds, IsShelfSound, IsSinkSound, IsWellAsked, IsEndOf, IsMissedFile}
use Rattle.ahi_cli.specs.Run.{Asked, Stops}
use Rattle.ahi_cli.specs.Stops.{status_of, stop_text}
use Rattle.ahi_cli.specs.Words.{accepted}
use Rattle.ahi_cli.proofs.FirstLemmas.{unrefused, as_many}

-- a refusal with its cause is the first one, where no load failed
is_first : (asked : Asked) (files : Files) (refusal : Stop) → asked.told ≡ Some files → IsShelfSound asked → Stops asked refusal → first_refusal asked.words files ≡ Some refusal
is_first asked files Usage told sound cause = ap (named_stop files) cause
is_first asked files (Script file line code) told sound cause = cause.first files told
is_first asked files (Shelf file) told sound cause = absurd (sound cause.fails.failed.0)
is_first asked files (TooLarge file) told sound cause = cause.first files told
is_first asked files (Sizes setting) told sound cause = cause.first files told
is_first asked files NoMemory told sound cause = absurd cause

refused_end : (asked : Asked) (out : Output) (end : Status) (files : Files) → asked.told ≡ Some files → IsShelfSound asked → IsRefused (Stops asked) end out → IsEndOf asked out end (first_refusal asked.words files)
refused_end asked out end files told sound r = subst (IsEndOf asked out end) (sym (is_first asked files r.refusal told sound r.cause)) (sym r.has_status, r.put)

-- so a run ends as its first refusal makes due
pub ends_by_first : (asked : Asked) (out : Output) (end : Status) (files : Files) → asked.told ≡ Some files → IsShelfSound asked → IsSinkSound out → RunEnds asked out end → IsEndOf asked out end (first_refusal asked.words files) ⊎ (end ≡ status.NoMemory)
ends_by_first asked out status.Done files told sound sound' e =
    let w = e.done refl in
    inl (subst (IsEndOf asked out status.Done) (sym (w.writes.unrefused files told)) (refl, w))
ends_by_first asked out status.Script files told sound sound' e = inl (refused_end asked out status.Script files told sound (e.script refl))
ends_by_first asked out status.Usage files told sound sound' e = inl (refused_end asked out status.Usage files told sound (e.usage refl))
ends_by_first asked out status.ShelfFault files told sound sound' e = inl (refused_end asked out status.ShelfFault files told sound (e.shelf_fault refl))
ends_by_first asked out status.TooLarge files told sound sound' e = inl (refused_end asked out status.TooLarge files told sound (e.too_large refl))
ends_by_first asked out status.SinkFault files told sound sound' e = absurd (sound' (e.sink_fault refl).1)
ends_by_first asked out status.NoMemory files told sound sound' e = inr refl

-- where the first refusal is that a file isn't there, it is the one that is told
missed : (asked : Asked) (out : Output) (end : Status) (files : Files) (file : ℕ) → asked.told ≡ Some files → first_refusal asked.words files ≡ Some (Shelf file) → IsRefused (Stops asked) end out → (end ≡ status.ShelfFault) × IsMissedFile asked out
missed asked out end files file told first r = told_as r.refusal r.has_status r.cause r.put
  where
    told_as : (refusal : Stop) → status_of refusal ≡ end → Stops asked refusal → IsPut out (stop_text refusal) → (end ≡ status.ShelfFault) × IsMissedFile asked out
    told_as Usage has cause put = absurd (let both : Some Usage ≡ Some (Shelf file) = sym (ap (named_stop files) cause) ∙ first in cc)
    told_as (Script n line code) has cause put = absurd (let both : Some (Script n line code) ≡ Some (Shelf file) = sym (cause.first files told) ∙ first in cc)
    told_as (Shelf n) has cause put = (sym has, record { file = n; unloaded = cause; told = put })
    told_as (TooLarge n) has cause put = absurd (let both : Some (TooLarge n) ≡ Some (Shelf file) = sym (cause.first files told) ∙ first in cc)
    told_as (Sizes s) has cause put = absurd (let both : Some (Sizes s) ≡ Some (Shelf file) = sym (cause.first files told) ∙ first in cc)
    told_as NoMemory has cause put = absurd cause

pub ends_by_missing : (asked : Asked) (out : Output) (end : Status) (files : Files) (file : ℕ) → asked.told ≡ Some files → first_refusal asked.words files ≡ Some (Shelf file) → IsSinkSound out → RunEnds asked out end → ((end ≡ status.ShelfFault) × IsMissedFile asked out) ⊎ (end ≡ status.NoMemory)
ends_by_missing asked out status.Done files file told first sound e = absurd (let w = e.done refl in let both : None ≡ Some (Shelf file) = sym (w.writes.unrefused files told) ∙ first in cc)
ends_by_missing asked out status.Script files file told first sound e = inl (missed asked out status.Script files file told first (e.script refl))
ends_by_missing asked out status.Usage files file told first sound e = inl (missed asked out status.Usage files file told first (e.usage refl))
ends_by_missing asked out status.ShelfFault files file told first sound e = inl (missed asked out status.ShelfFault files file told first (e.shelf_fault refl))
ends_by_missing asked out status.TooLarge files file told first sound e = inl (missed asked out status.TooLarge files file told first (e.too_large refl))
ends_by_missing asked out status.SinkFault files file told first sound e = absurd (sound (e.sink_fault refl).1)
ends_by_missing asked out status.NoMemory files file told first sound e = inr refl

-- words that aren't accepted have no other refusal
only_usage : (asked : Asked) (refusal : Stop) → accepted asked.words ≡ None → Stops asked refusal → refusal ≡ Usage
only_usage asked Usage none cause = refl
only_usage asked (Script file line code) none cause = absurd (let both : None ≡ Some cause.names = sym none ∙ cause.accepts in cc)
only_usage asked (Shelf file) none cause = absurd (let both : None ≡ Some cause.names = sym none ∙ cause.accepts in cc)
only_usage asked (TooLarge file) none cause = absurd (let both : None ≡ Some cause.names = sym none ∙ cause.accepts in cc)
only_usage asked (Sizes setting) none cause = absurd (let both : None ≡ Some cause.names = sym none ∙ cause.accepts in cc)
only_usage asked NoMemory none cause = absurd cause

usage_end : (asked : Asked) (out : Output) (end : Status) → accepted asked.words ≡ None → IsRefused (Stops asked) end out → IsEndOf asked out end (Some Usage)
usage_end asked out end none r = subst (λ s. IsEndOf asked out end (Some s)) (only_usage asked r.refusal none r.cause) (sym r.has_status, r.put)

-- and they end it with that
pub ends_by_words : (asked : Asked) (out : Output) (end : Status) → accepted asked.words ≡ None → IsSinkSound out → RunEnds asked out end → IsEndOf asked out end (Some Usage) ⊎ (end ≡ status.NoMemory)
ends_by_words asked out status.Done none sound e = absurd (let w = e.done refl in let both : None ≡ Some w.writes.names = sym none ∙ w.writes.accepts in cc)
ends_by_words asked out status.Script none sound e = inl (usage_end asked out status.Script none (e.script refl))
ends_by_words asked out status.Usage none sound e = inl (usage_end asked out status.Usage none (e.usage refl))
ends_by_words asked out status.ShelfFault none sound e = inl (usage_end asked out status.ShelfFault none (e.shelf_fault refl))
ends_by_words asked out status.TooLarge none sound e = inl (usage_end asked out status.TooLarge none (e.too_large refl))
ends_by_words asked out status.SinkFault none sound e = absurd (sound (e.sink_fault refl).1)
ends_by_words asked out status.NoMemory none sound e = inr refl

-- a run that is asked well has no refusal
no_refusal : (asked : Asked) → (w : IsWellAsked asked) → first_refusal asked.words w.files ≡ None
no_refusal asked w =
    let count = as_many w.files w.schema w.spelled.size w.names.1 w.lanes w.spelled.lane_files in
    ap (named_stop w.files) w.accepts ∙ unrefused w.files w.names w.schema w.lanes w.spelled ∙ ap (sizes_stop w.schema) count ∙ w.allowed

-- so it ends well
pub ends_well : (asked : Asked) (out : Output) (end : Status) → IsWellAsked asked → IsSinkSound out → RunEnds asked out end → (end ≡ status.Done) ⊎ (end ≡ status.NoMemory)
ends_well asked out end w sound e = elim (ends_by_first asked out end w.files w.told w.no_fault sound e) [ inl due ↦ inl (subst (IsEndOf asked out end) (no_refusal asked w) due).0 | inr none ↦ inr none ]
