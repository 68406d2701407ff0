-- Line 3 of document 01, as a single claim.
use mathlib.Core.List.{◌++◌}
use Rattle.claims.specs.Claims.{LineThree}
use Rattle.claims.proofs.Band.{band}
use Rattle.claims.proofs.Agreement.{agreement}

pub line_three : LineThree
line_three cfg s t l m ok = (band cfg s (l ++ m) ok, band cfg t (l ++ m) ok, agreement cfg s t l m ok)
