-- A text that was appended to is cut back to what it held before.
use Rattle.std.proofs.Common.{◌≡◌, ◌∙◌, ◌≤◌, ◌++◌, ℕ, List, length, take, String, Global, string_bytes, string_len, ap, sym, subst, arith}
use Rattle.std.proofs.Math.Seq.{take-append_seam}
use Rattle.std.proofs.lemmas.List.{length-append}
use Rattle.std.proofs.lemmas.Str.{IsCharBoundary-from_take, IsUtf8-string_bytes}
use Rattle.std.specs.Str.{IsUtf8}
use Rattle.std.specs.String.Boundary.{IsSplitPoint}

-- what it held is the front of what it holds, and ends where a character ends
module _ (before after : String Global) (rest : List ℕ) (longer : string_bytes after ≡ string_bytes before ++ rest) where
  front : take (length (string_bytes before)) (string_bytes after) ≡ string_bytes before
  front = ap (take (length (string_bytes before))) longer ∙ take-append_seam (string_bytes before) rest

  pub split_point : IsSplitPoint (string_bytes after) (string_len before)
  split_point =
      let within : length (string_bytes before) ≤ length (string_bytes after) =
      omega (arith, ap length longer, length-append (string_bytes before) rest)
      in
      let boundary = IsCharBoundary-from_take (string_bytes after) (length (string_bytes before)) (IsUtf8-string_bytes after) within
      (subst IsUtf8 (sym front) (IsUtf8-string_bytes before)) in
      subst (IsSplitPoint (string_bytes after)) (sym before.bytes.ok.0) (boundary.0, λ _. boundary.1)
