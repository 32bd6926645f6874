-- Reading keys.
use Rattle.std.proofs.Common.{◌≡◌, Bool, true, false, T, Option, None, refl}
use Rattle.query_text.specs.Keys.{when}

pub when_holds : {A : Type 0} (b : Bool) (make : T b → Option A) (holds : T b) → when b make ≡ make holds
when_holds true make holds = refl
when_holds false make holds = absurd holds

pub when_none : {A : Type 0} (b : Bool) (make : T b → Option A) → ((holds : T b) → make holds ≡ None) → when b make ≡ None
when_none true make none = none tt
when_none false make none = refl
