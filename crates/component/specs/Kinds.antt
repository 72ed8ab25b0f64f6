-- The type as the code holds it: its octet, and the octets that are one.
use Rattle.std.specs.Prelude.{◌≡◌, ℕ, true, false, Result, MatchResult}
use Rattle.element.specs.declared.refusal.Reason.TheVariants as RV
use Rattle.element.specs.declared.refusal.Refusal as F
use Rattle.component.specs.declared.types.Kind as K
use Rattle.component.specs.declared.types.Kind.TheVariants as KV
use Rattle.component.specs.Types.{typed}

abbrev pub octet_of : K.Kind → ℕ
octet_of KV.Invoke = 0xE9
octet_of KV.Result = 0xEA
octet_of KV.Error = 0xEB
octet_of KV.Reject = 0xEC

-- an octet is taken for the type that it is, else refused with 3
abbrev pub Typing : ℕ → Result K.Kind F.Refusal → Type 0
Typing octet r =
    MatchResult r (λ kind. (octet_of kind ≡ octet) × (typed octet ≡ true))
    (λ e. (e ≡ record { reason = RV.Type; detail = 0 }) × (typed octet ≡ false))
