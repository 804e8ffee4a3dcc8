-- A field by its sort, lists that are nothing but words, any walk by the table of fields, the scope of bodies, and the first token of a scan's items.
pub mod Fields
pub mod Plain
pub mod Walk
pub mod Members
pub mod Scopes
pub mod Front
