-- Table 2 of 002: which package carries which component of which operation.
use Rattle.std.specs.Prelude.{ℕ, List, [], ◌∷◌, eqb}
use Rattle.element.specs.Octets.{if}
use Rattle.package.specs.Types.{U, QW, R, CW, CWO}

-- where the table has no line: no package type is 0
abbrev no : ℕ
no = 0

-- what carries an INVOKE (LAST), a RETURN RESULT (LAST), a RETURN ERROR and a REJECT
pub record Carried : Type 0 where
  pub invoke : ℕ
  pub result : ℕ
  pub error : ℕ
  pub reject : ℕ

pub record Line : Type 0 where
  pub specifier : ℕ
  pub carried : Carried

abbrev pub by : (invoke result error reject : ℕ) → Carried
by i r e j = record { invoke = i; result = r; error = e; reject = j }

abbrev line : (specifier invoke result error reject : ℕ) → Line
line specifier i r e j = record { specifier = specifier; carried = by i r e j }

unfoldable pub lines : List Line
lines =
    line 2 QW CW R R  -- FacilitiesDirective
    ∷ line 3 R no no no  -- MobileOnChannel
    ∷ line 36 QW CW R R  -- FacilitiesDirective2
    ∷ line 50 CWO CW CW CW  -- RemoteUserInteractionDirective
    ∷ line 58 CWO CW CW CW  -- ChangeFacilities
    ∷ line 65 CW no CW CW  -- ConnectionFailureReport
    ∷ line 66 CWO no CW CW  -- ConnectResource
    ∷ line 67 CWO no CW CW  -- DisconnectResource
    ∷ line 69 CW R R R  -- InstructionRequest
    ∷ line 71 CWO no CW CW  -- ResetTimer
    ∷ line 73 QW CWO R R  -- SeizeResource
    ∷ line 74 CWO CW R R  -- SRFDirective
    ∷ line 78 U no no no  -- SMSDeliveryPointToPointAck
    ∷ []

-- its last line: all other operations
unfoldable pub others : Carried
others = by QW R R R

unfoldable pub line_of : (operation : ℕ) → List Line → Carried
line_of operation [] = others
line_of operation (l ∷ ls) = if (eqb operation l.specifier) l.carried (line_of operation ls)

unfoldable pub column : (kind : ℕ) → Carried → ℕ
column kind c =
    if (eqb kind 0xE9) c.invoke (if (eqb kind 0xEA) c.result (if (eqb kind 0xEB) c.error c.reject))

-- the package that carries a component of this type and operation
unfoldable pub carrier : (kind operation : ℕ) → ℕ
carrier kind operation = column kind (line_of operation lines)
