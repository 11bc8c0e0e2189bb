use Rattle.std.proofs.Common.{None, Some, codes}
use Rattle.serde_json.specs.View.{view}
use Rattle.zarrs_chunk_questions.specs.Question.{byte_ranges_in, decode_in, encode_in, of_array_in, text_in}
use Rattle.zarrs_chunk_questions.specs.Calls.{IsNamed}
use Rattle.zarrs_chunk_questions.specs.declared.call.Call.TheVariants.{ByteRanges, Decode, Encode, OfArray}
use Rattle.zarrs_chunk_questions.proofs.FirstFaults.{of_object}
use Rattle.zarrs_chunk_questions.proofs.question.Question.from_tree.Goals as goal

pub returns-in-Some-Encode : goal.returns-in-Some-Encode
returns-in-Some-Encode c =
    let tree = view c.args.tree.now in
    let named = c.in-Some-Encode in
    let is_named : IsNamed (text_in (codes "call") tree) (Some Encode) = rw named.field-0-is at named.ensures in
    (encode_in tree, (Some Encode, is_named, of_object tree _ c.if-not-is_object.ensures), c.encode.ensures)

pub returns-in-Some-Decode : goal.returns-in-Some-Decode
returns-in-Some-Decode c =
    let tree = view c.args.tree.now in
    let named = c.in-Some-Decode in
    let is_named : IsNamed (text_in (codes "call") tree) (Some Decode) = rw named.field-0-is at named.ensures in
    (decode_in tree, (Some Decode, is_named, of_object tree _ c.if-not-is_object.ensures), c.decode.ensures)

pub returns-in-Some-ByteRanges : goal.returns-in-Some-ByteRanges
returns-in-Some-ByteRanges c =
    let tree = view c.args.tree.now in
    let named = c.in-Some-ByteRanges in
    let is_named : IsNamed (text_in (codes "call") tree) (Some ByteRanges) = rw named.field-0-is at named.ensures in
    (byte_ranges_in tree, (Some ByteRanges, is_named, of_object tree _ c.if-not-is_object.ensures), c.bytes.ensures)

pub returns-in-Some-OfArray : goal.returns-in-Some-OfArray
returns-in-Some-OfArray c =
    let tree = view c.args.tree.now in
    let named = c.in-Some-OfArray in
    let is_named : IsNamed (text_in (codes "call") tree) (Some (OfArray named.call)) = rw named.field-0-is at named.ensures in (
      of_array_in (Some named.call) tree,
      (Some (OfArray named.call), is_named, of_object tree _ c.if-not-is_object.ensures),
      c.of_array.ensures,
    )

pub returns-in-None : goal.returns-in-None
returns-in-None c =
    let tree = view c.args.tree.now in
    (of_array_in None tree, (None, c.in-None.ensures, of_object tree _ c.if-not-is_object.ensures), c.of_array-in-None.ensures)
