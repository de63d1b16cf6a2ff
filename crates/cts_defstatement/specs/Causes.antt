-- The names of the causes.
use Rattle.std.specs.Prelude.{ℕ, List, codes}
use Rattle.cts_defstatement.specs.declared.cause.DefCause.{DefCause}
use Rattle.cts_defstatement.specs.declared.cause.DefCause.TheVariants as cause

-- the name of a cause, as it is printed
abbrev pub cause_name : DefCause → List ℕ
cause_name cause.UnknownKeyword = codes "UnknownKeyword"
cause_name cause.OutsidePacket = codes "OutsidePacket"
cause_name cause.WrongCount = codes "WrongCount"
cause_name cause.BadName = codes "BadName"
cause_name cause.FloatItem = codes "FloatItem"
cause_name cause.DerivedItem = codes "DerivedItem"
cause_name cause.ArrayItem = codes "ArrayItem"
cause_name cause.NotNumber = codes "NotNumber"
cause_name cause.WrongKind = codes "WrongKind"
cause_name cause.IdNotWhole = codes "IdNotWhole"
cause_name cause.DoubleName = codes "DoubleName"
cause_name cause.AppendLittleBits = codes "AppendLittleBits"
cause_name cause.BadPlace = codes "BadPlace"
cause_name cause.IdOutOfRange = codes "IdOutOfRange"
cause_name cause.DefaultOutOfRange = codes "DefaultOutOfRange"
cause_name cause.ConversionTooLarge = codes "ConversionTooLarge"
cause_name cause.LimitsOrder = codes "LimitsOrder"
cause_name cause.BadFormat = codes "BadFormat"
cause_name cause.TooMany = codes "TooMany"
