-- What is said of an error.
use Rattle.std.specs.Prelude.{ℕ, List, ◌++◌, codes, decimal}
use Rattle.check_text.specs.declared.error.CheckError.{CheckError}

-- the text of an error: `line 6 is not a step`
abbrev pub error_text : CheckError → List ℕ
error_text CheckError.OutOfMemory = codes "memory allocation failed"
error_text (CheckError.Unreadable n) = codes "line " ++ (decimal n ++ codes " is not a step")
