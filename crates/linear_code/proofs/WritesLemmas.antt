-- Texts that are appended one after another: a part of the whole text stands there, and the rest of it is left.
use Rattle.std.proofs.Common.{◌≡◌, ℕ, List, [], ◌++◌, Result, Ok, Err, OnErr, refl, sym, append_assoc, append-nil}
use Rattle.std.proofs.lemmas.Result.{on_ok_weaker, on_err_weaker}
use Rattle.std.specs.Result.{IsErr}
use Rattle.linear_code.specs.ListingText.{WritesFront}
use Rattle.linear_code.specs.Pieces.{IsLeft, Writes}

-- before the first piece all is left
pub IsLeft-all : (old text : List ℕ) → IsLeft old old text text
IsLeft-all old text = record { front = []; splits = refl; appended = sym (append-nil old) }

-- what is left is a piece and the rest: once the piece was appended, the rest is left
pub IsLeft-more : {old now new text left rest : List ℕ} (piece : List ℕ) → IsLeft old now text left → left ≡ piece ++ rest
    → new ≡ now ++ piece → IsLeft old new text rest
IsLeft-more {old} {now} {new} {text} {left} {rest} piece before splits put = record {
  front = before.front ++ piece;
  splits = rw (before.splits, splits) (sym (append_assoc before.front piece rest));
  appended = rw (put, before.appended) (append_assoc old before.front piece);
}

-- if nothing is left, the whole text stands there
pub IsLeft-none : {old now text left : List ℕ} → IsLeft old now text left → left ≡ [] → now ≡ old ++ text
IsLeft-none {old} {now} {text} {left} before none = rw (before.splits, none, append-nil before.front) before.appended

-- what is left is a piece and the rest: once a part of the piece was appended, a part of the whole text was
pub WritesFront-more : {old now new text left piece : List ℕ} (rest : List ℕ) → IsLeft old now text left → left ≡ piece ++ rest
    → WritesFront now new piece → WritesFront old new text
WritesFront-more {old} {now} {new} {text} {left} {piece} rest before splits part = record {
  front = before.front ++ part.front;
  rest = part.rest ++ rest;
  is_front = rw (before.splits, splits, part.is_front) (simp append_assoc);
  appended = rw (part.appended, before.appended) (append_assoc old before.front part.front);
}

-- a further part was appended of what was left
pub IsLeft-trans : {old now new text left rest : List ℕ} → IsLeft old now text left → IsLeft now new left rest → IsLeft old new text rest
IsLeft-trans before after = IsLeft-more after.front before after.splits after.appended

-- a part of what was left was appended from its start, and so a part of the whole text was
pub WritesFront-left : {old now new text left : List ℕ} → IsLeft old now text left → WritesFront now new left → WritesFront old new text
WritesFront-left {old} {now} {new} {text} {left} before part = WritesFront-more [] before (sym (append-nil left)) part

-- what holds anyway holds on a fault
pub at_err : {T E P : Type 0} (result : Result T E) → P → OnErr result P
at_err (Ok value) fact = tt
at_err (Err fault) fact = fact

-- memory was wanting within a piece: a part of the whole text was appended
pub Writes-stopped : {E F : Type 0} {old now new text left piece : List ℕ} {fault : E} (rest : List ℕ) (result : Result (Unit {0}) F)
    → IsLeft old now text left → left ≡ piece ++ rest → Writes {E = E} now new piece (Err fault) → IsErr result
    → Writes old new text result
Writes-stopped rest (Ok done) before splits stopped is_err = cc
Writes-stopped rest (Err other) before splits stopped is_err = record { ok = tt; part = WritesFront-more rest before splits stopped.part }

-- what is left is a piece, which is the last: with it the whole text is written
pub Writes-last : {E : Type 0} {old now new text piece : List ℕ} {result : Result (Unit {0}) E} → IsLeft old now text piece
    → Writes now new piece result → Writes old new text result
Writes-last {E} {old} {now} {new} {text} {piece} {result} before last =
    let alone : piece ≡ piece ++ [] = sym (append-nil piece) in
    record {
      ok = on_ok_weaker result (λ put. IsLeft-none (IsLeft-more piece before alone put) refl) last.ok;
      part = on_err_weaker result (λ part. WritesFront-more [] before alone part) last.part;
    }
