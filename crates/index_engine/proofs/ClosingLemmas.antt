-- What an engine leaves is hashed exactly.
use Rattle.std.proofs.Common.{List, subst}
use Rattle.latch_law.specs.Fitting.{ClosesWith}
use Rattle.index_law.specs.Rightness.{IsRight}
use Rattle.call_law.specs.Spoken.{View}
use Rattle.forest_law.specs.declared.objects.Object.{Object}
use Rattle.forest_law.specs.Hashed.{IsHashExact}
use Rattle.forest_law.specs.Law.{IsLawful}
use Rattle.forest_law.specs.References.{IsReference}

-- the objects with which a space of trees closes are hashed exactly
pub closed_hashed : (v : View) (xs : List Object)
    → ClosesWith IsLawful IsRight IsReference v xs → IsHashExact v.terms.shape xs
closed_hashed v xs closes =
    subst (λ sh. IsHashExact sh xs) closes.fits.shape
    (subst (λ ys. IsHashExact closes.whole.shape ys) closes.objects closes.is_lawful.objects.hashed)
