-- The examples of single rows compute.
use Rattle.hash_law.specs.Examples.{WorkedRows, MirroredRows}

-- with left
pub worked : WorkedRows
worked = assumption

-- with right
pub mirrored : MirroredRows
mirrored = assumption
