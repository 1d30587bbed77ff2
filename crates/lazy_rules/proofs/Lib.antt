pub mod SeenAfter
