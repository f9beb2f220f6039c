-- Why a text isn't compiled.
use Rattle.regex.specs.declared.error.Error.{Error}
use Rattle.regex.specs.declared.error.Error.TheVariants.{Syntax, CompiledTooBig, Internal, OutOfMemory}
use Rattle.text_search.specs.declared.error.RegexError.{RegexError}
use Rattle.text_search.specs.declared.error.RegexError.TheVariants.{BadPattern, TooBig, Memory}

-- what an error of `regex` says: one of syntax that the text is no regular expression,
-- and nothing else says that
abbrev pub error_of : Error → RegexError
error_of (Syntax e) = BadPattern
error_of CompiledTooBig = TooBig
error_of Internal = Memory
error_of OutOfMemory = Memory
