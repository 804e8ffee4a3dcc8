-- `Image` says what an image is; `Laws`, and that taking apart is right both ways (`File`), are vouched for.
pub mod Image
pub mod Laws
pub mod File
