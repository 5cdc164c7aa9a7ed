-- The rules of document 01, "The route sheet and `bottlerun`", in its order: the text of a sheet, what a sheet may list, with what a sheet
-- can begin, and what a text comes to; then the reader's answer, and the report; then what the theorems say of them. Last what
-- only proofs and the contracts of private functions cite.
pub mod Text
pub mod Sheet
pub mod Beginning
pub mod Answer
pub mod Report
pub mod Claims
pub mod Inner
