-- How a call ends, from what its parts did.
use Rattle.std.proofs.Common.{◌≡◌, ◌≢◌, ℕ, ◌≤◌, Option, Some, None, Result, Ok, Err, List, [], ◌++◌, append-nil, arith, refl, ap, ◌∙◌, sym, subst, ◌⊎◌, inl, inr}
use Rattle.std.specs.Prelude.{OnOk}
use Rattle.io_port.specs.Faults.{ShowsFault}
use Rattle.io_port.specs.Sink.{Puts}
use Rattle.report_print.specs.declared.halt.Halt.{Halt}
use Rattle.report_print.specs.declared.halt.Halt.TheVariants as halt
use Rattle.ahi_cli.specs.declared.status.Status.{Status}
use Rattle.ahi_cli.specs.declared.status.Status.TheVariants.{Done, Script, Usage, ShelfFault, SinkFault, TooLarge, NoMemory}
use Rattle.ahi_cli.specs.declared.stop.Stop.{Stop}
use Rattle.ahi_cli.specs.declared.stop.Stop.TheVariants as stop
use Rattle.ahi_cli.specs.Ends.{Output, IsWritten, IsRefused, IsCutOff, Ends}
use Rattle.ahi_cli.specs.Files.{StopsReading}
use Rattle.ahi_cli.specs.FirstRefusal.{named_stop}
use Rattle.report_print.specs.Prints.{Prints}
use Rattle.ahi_cli.specs.Prints.{EndsWith, EndsRefused, halted, ended}
use Rattle.ahi_cli.specs.Trail.{LeavesTrail}
use Rattle.lane_threads.specs.Engine.{EnginePass}
use Rattle.ahi_cli.specs.Run.{Asked, Stops}
use Rattle.ahi_cli.specs.Stops.{status_of, stop_text}
use Rattle.ahi_cli.specs.Words.{accepted, file_names}

whole_ends : (old new : Option (List ℕ)) (f f' : ℕ) (text : List ℕ) (whole : Status) → whole ≢ SinkFault → whole ≢ NoMemory → Puts old new text → f ≤ f' → EndsWith old new f f' text whole whole
whole_ends old new f f' text Done s n p le = (refl, p, le)
whole_ends old new f f' text Script s n p le = (refl, p, le)
whole_ends old new f f' text Usage s n p le = (refl, p, le)
whole_ends old new f f' text ShelfFault s n p le = (refl, p, le)
whole_ends old new f f' text TooLarge s n p le = (refl, p, le)
whole_ends old new f f' text SinkFault s n p le = absurd (s refl)
whole_ends old new f f' text NoMemory s n p le = absurd (n refl)

-- printing ends so
pub print_ends : (old new : Option (List ℕ)) (f f' : ℕ) (text : List ℕ) (whole : Status) → whole ≢ SinkFault → whole ≢ NoMemory → (r : Result (Unit {0}) Halt) → Prints old new f f' text r → EndsWith old new f f' text whole (ended r whole)
print_ends old new f f' text whole s n (Ok x) p = whole_ends old new f f' text whole s n p.0 p.1
print_ends old new f f' text whole s n (Err halt.SinkFault) p = p
print_ends old new f f' text whole s n (Err halt.NoMemory) p = inr p.0

-- the printing of a refusal's line ends so
pub refusal_ends : (old new : Option (List ℕ)) (f f' : ℕ) (refusal : Stop) → refusal ≢ stop.NoMemory → (r : Result (Unit {0}) Halt) → Prints old new f f' (stop_text refusal) r → EndsRefused old new f f' refusal (ended r (status_of refusal))
refusal_ends old new f f' stop.Usage there r p = print_ends old new f f' (stop_text stop.Usage) Usage (λ e. cc) (λ e. cc) r p
refusal_ends old new f f' (stop.Script file line code) there r p = print_ends old new f f' (stop_text (stop.Script file line code)) Script (λ e. cc) (λ e. cc) r p
refusal_ends old new f f' (stop.Shelf file) there r p = print_ends old new f f' (stop_text (stop.Shelf file)) ShelfFault (λ e. cc) (λ e. cc) r p
refusal_ends old new f f' (stop.TooLarge file) there r p = print_ends old new f f' (stop_text (stop.TooLarge file)) TooLarge (λ e. cc) (λ e. cc) r p
refusal_ends old new f f' (stop.Sizes setting) there r p = print_ends old new f f' (stop_text (stop.Sizes setting)) TooLarge (λ e. cc) (λ e. cc) r p
refusal_ends old new f f' stop.NoMemory there r p = absurd (there refl)

-- how a call ends with this status
abbrev ByStatus : (Writes : List ℕ → Type 0) (Refuses : Stop → Type 0) → Output → Status → Type 0
ByStatus Writes Refuses out Done = IsWritten Writes out
ByStatus Writes Refuses out SinkFault = IsCutOff Writes Refuses out × ShowsFault out.faults out.faults'
ByStatus Writes Refuses out NoMemory = (out.new ≡ out.old) ⊎ IsCutOff Writes Refuses out
ByStatus Writes Refuses out status = IsRefused Refuses status out

-- and so it ends
by_status : (Writes : List ℕ → Type 0) (Refuses : Stop → Type 0) (out : Output) (status : Status) → ByStatus Writes Refuses out status → Ends Writes Refuses out status
by_status Writes Refuses out status h = record {
  done = λ e. subst (ByStatus Writes Refuses out) e h;
  script = λ e. subst (ByStatus Writes Refuses out) e h;
  usage = λ e. subst (ByStatus Writes Refuses out) e h;
  shelf_fault = λ e. subst (ByStatus Writes Refuses out) e h;
  too_large = λ e. subst (ByStatus Writes Refuses out) e h;
  sink_fault = λ e. subst (ByStatus Writes Refuses out) e h;
  no_memory = λ e. subst (ByStatus Writes Refuses out) e h;
}

-- a text of the command's own, put to the end, ends it with Done
done_by : (Writes : List ℕ → Type 0) (Refuses : Stop → Type 0) (out : Output) (text : List ℕ) (status : Status) → Writes text → EndsWith out.old out.new out.faults out.faults' text Done status → ByStatus Writes Refuses out status
done_by Writes Refuses out text Done writes e = record { text = text; writes = writes; put = record { whole = e.1; faults = e.2 } }
done_by Writes Refuses out text SinkFault writes e = (record { text = text; due = inl writes; part = e.0 }, e.1)
done_by Writes Refuses out text NoMemory writes e = elim e [ inl same ↦ inl same | inr part ↦ inr record { text = text; due = inl writes; part = part } ]
done_by Writes Refuses out text Script writes e = absurd (let other = e.0 in cc)
done_by Writes Refuses out text Usage writes e = absurd (let other = e.0 in cc)
done_by Writes Refuses out text ShelfFault writes e = absurd (let other = e.0 in cc)
done_by Writes Refuses out text TooLarge writes e = absurd (let other = e.0 in cc)

pub done_ends : (Writes : List ℕ → Type 0) (Refuses : Stop → Type 0) (out : Output) (text : List ℕ) (status : Status) → Writes text → EndsWith out.old out.new out.faults out.faults' text Done status → Ends Writes Refuses out status
done_ends Writes Refuses out text status writes e = by_status Writes Refuses out status (done_by Writes Refuses out text status writes e)

-- a text of the command's own that was cut off ends it so
pub halted_ends : (Writes : List ℕ → Type 0) (Refuses : Stop → Type 0) (out : Output) (text : List ℕ) (halt : Halt) (status : Status) → status ≡ halted halt → Writes text → Prints out.old out.new out.faults out.faults' text (Err halt) → Ends Writes Refuses out status
halted_ends Writes Refuses out text halt status is writes p = done_ends Writes Refuses out text status writes
    (subst (EndsWith out.old out.new out.faults out.faults' text Done) (sym is) (print_ends out.old out.new out.faults out.faults' text Done (λ e. cc) (λ e. cc) (Err halt) p))

-- no refusal with a line has the status Done
line_of_other_status : (refusal : Stop) → status_of refusal ≢ Done
line_of_other_status stop.Usage = λ e. cc
line_of_other_status (stop.Script file line code) = λ e. cc
line_of_other_status (stop.Shelf file) = λ e. cc
line_of_other_status (stop.TooLarge file) = λ e. cc
line_of_other_status (stop.Sizes setting) = λ e. cc
line_of_other_status stop.NoMemory = λ e. cc

-- the line of a refusal with its cause ends it with that refusal's status
line_by : (Writes : List ℕ → Type 0) (Refuses : Stop → Type 0) (out : Output) (refusal : Stop) (status : Status) → Refuses refusal → EndsWith out.old out.new out.faults out.faults' (stop_text refusal) (status_of refusal) status → ByStatus Writes Refuses out status
line_by Writes Refuses out refusal Done cause e = absurd (line_of_other_status refusal (sym e.0))
line_by Writes Refuses out refusal SinkFault cause e = (record { text = stop_text refusal; due = inr record { refusal = refusal; cause = cause; is_text = refl }; part = e.0 }, e.1)
line_by Writes Refuses out refusal NoMemory cause e = elim e [ inl same ↦ inl same | inr part ↦ inr record { text = stop_text refusal; due = inr record { refusal = refusal; cause = cause; is_text = refl }; part = part } ]
line_by Writes Refuses out refusal Script cause e = record { refusal = refusal; has_status = sym e.0; cause = cause; put = record { whole = e.1; faults = e.2 } }
line_by Writes Refuses out refusal Usage cause e = record { refusal = refusal; has_status = sym e.0; cause = cause; put = record { whole = e.1; faults = e.2 } }
line_by Writes Refuses out refusal ShelfFault cause e = record { refusal = refusal; has_status = sym e.0; cause = cause; put = record { whole = e.1; faults = e.2 } }
line_by Writes Refuses out refusal TooLarge cause e = record { refusal = refusal; has_status = sym e.0; cause = cause; put = record { whole = e.1; faults = e.2 } }

-- a refusal, put, ends the call; want of memory needs no cause
pub refused_ends : (Writes : List ℕ → Type 0) (Refuses : Stop → Type 0) (out : Output) (refusal : Stop) (status : Status) → (refusal ≢ stop.NoMemory → Refuses refusal) → EndsRefused out.old out.new out.faults out.faults' refusal status → Ends Writes Refuses out status
refused_ends Writes Refuses out stop.Usage status cause e = by_status Writes Refuses out status (line_by Writes Refuses out stop.Usage status (cause (λ e. cc)) e)
refused_ends Writes Refuses out (stop.Script file line code) status cause e = by_status Writes Refuses out status (line_by Writes Refuses out (stop.Script file line code) status (cause (λ e. cc)) e)
refused_ends Writes Refuses out (stop.Shelf file) status cause e = by_status Writes Refuses out status (line_by Writes Refuses out (stop.Shelf file) status (cause (λ e. cc)) e)
refused_ends Writes Refuses out (stop.TooLarge file) status cause e = by_status Writes Refuses out status (line_by Writes Refuses out (stop.TooLarge file) status (cause (λ e. cc)) e)
refused_ends Writes Refuses out (stop.Sizes setting) status cause e = by_status Writes Refuses out status (line_by Writes Refuses out (stop.Sizes setting) status (cause (λ e. cc)) e)
refused_ends Writes Refuses out stop.NoMemory status cause e = subst (Ends Writes Refuses out) (sym e.0) (by_status Writes Refuses out NoMemory (inl e.1))

-- the cause of a refusal in reading is one of the call's
pub reading_stops : (asked : Asked) (names : List ℕ × List (List ℕ)) (refusal : Stop) → accepted asked.words ≡ Some names → StopsReading asked.told asked.failures (file_names names) refusal → refusal ≢ stop.NoMemory → Stops asked refusal
reading_stops asked names stop.Usage accepts s other = absurd s
reading_stops asked names (stop.Script file line code) accepts s other = record { names = names; accepts = accepts; first = λ files e. ap (named_stop files) accepts ∙ s files e }
reading_stops asked names (stop.Shelf file) accepts s other = record { names = names; accepts = accepts; fails = s }
reading_stops asked names (stop.TooLarge file) accepts s other = record { names = names; accepts = accepts; first = λ files e. ap (named_stop files) accepts ∙ s files e }
reading_stops asked names (stop.Sizes setting) accepts s other = absurd s
reading_stops asked names stop.NoMemory accepts s other = absurd (other refl)

written_as : (Writes Writes' : List ℕ → Type 0) (out : Output) → ((text : List ℕ) → Writes text → Writes' text) → IsWritten Writes out → IsWritten Writes' out
written_as Writes Writes' out more w = record { text = w.text; writes = more w.text w.writes; put = w.put }

refused_as : (Refuses Refuses' : Stop → Type 0) (status : Status) (out : Output) → ((refusal : Stop) → Refuses refusal → Refuses' refusal) → IsRefused Refuses status out → IsRefused Refuses' status out
refused_as Refuses Refuses' status out more r = record { refusal = r.refusal; has_status = r.has_status; cause = more r.refusal r.cause; put = r.put }

cut_as : (Writes Writes' : List ℕ → Type 0) (Refuses Refuses' : Stop → Type 0) (out : Output) → ((text : List ℕ) → Writes text → Writes' text) → ((refusal : Stop) → Refuses refusal → Refuses' refusal) → IsCutOff Writes Refuses out → IsCutOff Writes' Refuses' out
cut_as Writes Writes' Refuses Refuses' out more causes c = record {
  text = c.text;
  due = elim c.due [ inl w ↦ inl (more c.text w) | inr r ↦ inr record { refusal = r.refusal; cause = causes r.refusal r.cause; is_text = r.is_text } ];
  part = c.part;
}

-- how a call ends, said of what more it may write and be refused for
pub ends_as : (Writes Writes' : List ℕ → Type 0) (Refuses Refuses' : Stop → Type 0) (out : Output) (status : Status) → ((text : List ℕ) → Writes text → Writes' text) → ((refusal : Stop) → Refuses refusal → Refuses' refusal) → Ends Writes Refuses out status → Ends Writes' Refuses' out status
ends_as Writes Writes' Refuses Refuses' out status more causes e = record {
  done = λ is. written_as Writes Writes' out more (e.done is);
  script = λ is. refused_as Refuses Refuses' Script out causes (e.script is);
  usage = λ is. refused_as Refuses Refuses' Usage out causes (e.usage is);
  shelf_fault = λ is. refused_as Refuses Refuses' ShelfFault out causes (e.shelf_fault is);
  too_large = λ is. refused_as Refuses Refuses' TooLarge out causes (e.too_large is);
  sink_fault = λ is. (cut_as Writes Writes' Refuses Refuses' out more causes (e.sink_fault is).0, (e.sink_fault is).1);
  no_memory = λ is. elim (e.no_memory is) [ inl same ↦ inl same | inr part ↦ inr (cut_as Writes Writes' Refuses Refuses' out more causes part) ];
}

-- a text that was put leaves the pass that did what it tells
pub leaves_pass : (DidBy : EnginePass → List ℕ → Type 0) (out : Output) (pass : EnginePass) (text : List ℕ) → DidBy pass text → Puts out.old out.new text → out.faults ≤ out.faults' → LeavesTrail DidBy out (Some pass) Done
leaves_pass DidBy out pass text did whole faults = record { done = λ is. record { text = text; writes = did; put = record { whole = whole; faults = faults } }; other = λ other. absurd (other refl) }

-- what a call leaves, said of what more the pass did
pub leaves_as : (DidBy DidBy' : EnginePass → List ℕ → Type 0) (out : Output) (trail : Option EnginePass) (status : Status) → ((pass : EnginePass) (text : List ℕ) → DidBy pass text → DidBy' pass text) → LeavesTrail DidBy out trail status → LeavesTrail DidBy' out trail status
leaves_as DidBy DidBy' out None status more l = record { done = λ is. l.done is; other = l.other }
leaves_as DidBy DidBy' out (Some pass) status more l = record { done = λ is. written_as (DidBy pass) (DidBy' pass) out (more pass) (l.done is); other = l.other }

-- a call that isn't done leaves what it was handed: no pass
pub leaves_none : (DidBy : EnginePass → List ℕ → Type 0) (out : Output) (trail : Option EnginePass) (status : Status) → trail ≡ None → status ≢ Done → LeavesTrail DidBy out trail status
leaves_none DidBy out trail status none other = record { done = λ is. absurd (other is); other = λ is. none }

-- printing that was halted isn't done
pub halted_other : (halt : Halt) → halted halt ≢ Done
halted_other halt.SinkFault = λ e. cc
halted_other halt.NoMemory = λ e. cc

-- nor is a refusal, however far its line was put
pub refused_other : (r : Result (Unit {0}) Halt) (refusal : Stop) → ended r (status_of refusal) ≢ Done
refused_other (Ok x) refusal = line_of_other_status refusal
refused_other (Err h) refusal = halted_other h

-- want of memory, when nothing was put, ends a call so
pub lacked_ends : (Writes : List ℕ → Type 0) (Refuses : Stop → Type 0) (out : Output) → out.new ≡ out.old → Ends Writes Refuses out NoMemory
lacked_ends Writes Refuses out same = by_status Writes Refuses out NoMemory (inl same)

-- and leaves no pass
pub lacked_leaves : (DidBy : EnginePass → List ℕ → Type 0) (out : Output) (trail : Option EnginePass) → trail ≡ None → LeavesTrail DidBy out trail NoMemory
lacked_leaves DidBy out trail none = leaves_none DidBy out trail NoMemory none (λ e. cc)

-- a text that was put is any that is the same
pub put_as : {E : Type 0} (r : Result (Unit {0}) E) (old new text text' : List ℕ) → text ≡ text' → OnOk r (new ≡ old ++ text) → OnOk r (new ≡ old ++ text')
put_as r old new text text' same put = subst (λ t. OnOk r (new ≡ old ++ t)) same put

-- nothing was put where memory lacked before
pub lacked_prints : (written : Option (List ℕ)) (faults : ℕ) (text : List ℕ) (r : Result (Unit {0}) Halt) (h : Halt) → r ≡ Err h → h ≡ halt.NoMemory → Prints written written faults faults text r
lacked_prints written faults text r h is lacked = subst (Prints written written faults faults text) (sym (is ∙ ap Err lacked)) ((0, unwritten written), omega arith)
  where
    unwritten : (w : Option (List ℕ)) → Puts w w []
    unwritten None = refl
    unwritten (Some bytes) = ap Some (sym (append-nil bytes))
