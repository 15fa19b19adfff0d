-- The references of frames among those that calls add.
use Rattle.std.proofs.Common.{◌≡◌, ℕ, [], ◌++◌, List, ap, sym, subst}
use Rattle.std.specs.List.{AllByRecursion}
use Rattle.std.proofs.lemmas.List.Elements.{filter-append}
use Rattle.latch_law.specs.declared.knows.Reference.{Reference}
use Rattle.latch_law.specs.declared.knows.Refusal.{Refusal}
use Rattle.index_law.specs.Shape.{Shape}
use Rattle.forest_law.specs.declared.objects.Object.{Object}
use Rattle.call_law.specs.Trace.{Added, IsOnlySaid, IsNoTree, SparesTrees, is_frame, frame_references}

-- those of two lists, one behind the other
pub frames_both : (qs rs : List (Reference Object))
    → frame_references (qs ++ rs) ≡ frame_references qs ++ frame_references rs
frames_both qs rs = filter-append (λ (q : Reference Object). is_frame q.released) qs rs

-- there are none where something was said, and nothing else done
pub said_frames : (a : Added) → IsOnlySaid a → frame_references a.references ≡ []
said_frames a only = ap (λ (z : List (Reference Object)). frame_references z) only.references

-- what was only said spares the trees
pub said_spares : (shape : Shape) (s : Added) → IsOnlySaid s → SparesTrees shape s
said_spares shape s only = record {
  refused = subst (AllByRecursion (λ (f : Refusal Object). IsNoTree shape f.object))
      (sym only.refused) tt;
  references = subst (AllByRecursion (λ (q : Reference Object). IsNoTree shape q.object))
      (sym only.references) tt;
}
