-- What many of the proofs import, in one place.
pub use Rattle.programs.specs.chunkcalls.Lines.{AreAnswers, AreAnswersRead, AreEndedAnswers, AreFirstAnswers, AreLinesFor, HasAnswered}
pub use Rattle.programs.specs.chunkcalls.Lines.{HasAnsweredRead, HasBegunAnswers, HoldsAnswers, IsReply, IsReplyTo, answered, first_line, last_line}
pub use Rattle.programs.specs.chunkcalls.Lines.{line_count, long_answer, long_line, longest_line, no_ended, no_line, one_ended}
pub use Rattle.programs.specs.chunkcalls.seen.Answered.{HasAnsweredBefore, HasAnsweredPiece, HasStopped, HasStoppedAt, HasStoppedIn, IsBegun, kept}
pub use Rattle.std.proofs.Common.{Err, IfErr, IfSome, List, MatchResult, None, Ok, OnErr, OnOk, Option, Result, Some, [], ap, append-nil}
pub use Rattle.std.proofs.Common.{append_assoc, arith, codes, drop, false, get_or, inl, inr, length, length-append, min, refl, rules, subst, suc, sym}
pub use Rattle.std.proofs.Common.{take, take_all, ℕ, ⊎_elim, ◌++◌, ◌+◌, ◌<◌, ◌∙◌, ◌∷◌, ◌≡◌, ◌≢◌, ◌≤◌}
pub use Rattle.std.proofs.lemmas.Bool.Decides.{nat_tests}
pub use Rattle.std.proofs.lemmas.List.{length-take, nil_from_length, take-append-drop, take-append-le}
pub use Rattle.std.proofs.lemmas.Result.{err_from_is_err_and, on_ok_weaker}
pub use Rattle.streams.proofs.Known.{for_known}
pub use Rattle.streams.proofs.Sent.{flushed, sends_more, sends_nothing, some_sent}
pub use Rattle.streams.specs.OneLine.{IsOneLine, line_feeds}
pub use Rattle.streams.specs.Watched.{IsWriteFailure, has_failed, watched}
pub use Rattle.streams.specs.declared.stream_fault.StreamFault.{StreamFault}
pub use Rattle.streams.specs.declared.stream_fault.StreamFault.TheVariants.{Memory, Read, Write}
pub use Rattle.streams.specs.seen.Sent.{HoldsAll, IsSent, Output, Sends, written}
