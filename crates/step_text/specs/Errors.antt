-- What is said of an error.
use Rattle.std.specs.Prelude.{ℕ, List, codes}
use Rattle.step_text.specs.declared.error.WriteError.{WriteError}

-- the text of an error
abbrev pub error_text : WriteError → List ℕ
error_text WriteError.NoLine = codes "the row has no line"
error_text WriteError.OutOfMemory = codes "memory allocation failed"
