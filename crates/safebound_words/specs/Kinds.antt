-- Maps the code's kind of a word to the definitions' kind.
use Rattle.safebound_words.specs.Answer.{WordKind, Ends, IsPositional, Sets, Wants, Gives, Unknown}
use Rattle.safebound_words.specs.declared.kind.WordKind.{WordKind as CodeKind}
use Rattle.safebound_words.specs.declared.kind.WordKind.TheVariants as code

abbrev pub kind_seen : CodeKind → WordKind
kind_seen code.End = Ends
kind_seen code.Positional = IsPositional
kind_seen (code.Flag flag) = Sets flag
kind_seen (code.Option option) = Wants option
kind_seen (code.Value option value) = Gives option value.now
kind_seen code.Unknown = Unknown
